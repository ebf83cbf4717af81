-- Counters that stop at their greatest value, and the counts of two runs in sequence.
use Rattle.std.proofs.Common.{◌≡◌, inl, inr, ℕ, ◌+◌, ◌-◌, ◌^◌, ◌<◌, ◌≤◌, true, false, refl, arith}
use Rattle.std.specs.Prelude.{min, nat_le}
use Rattle.std.proofs.lemmas.Bool.Decides.{nat_tests}
use Rattle.run_model.specs.Bench.{RoseBy}
use Rattle.law_run.specs.Benched.{counter}

pub rises : (n before now : ℕ) → now < 2 ^ 64 → min (before + n) (2 ^ 64 - 1) ≤ now → RoseBy (counter before now) n
rises n before now below least =
    elim (nat_le (before + n) now) as (λ t. nat_le (before + n) now ≡ t → RoseBy (counter before now) n) [
      | true ↦ λ e. inl (grind (arith, nat_tests))
      | false ↦ λ e. inr (omega (arith, below, least, over e))
    ] refl
  where
    over : nat_le (before + n) now ≡ false → now < before + n
    over e = grind (arith, nat_tests)
