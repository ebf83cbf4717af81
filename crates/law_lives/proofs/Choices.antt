-- What is chosen for each number below n is one choice for all.
use Rattle.std.proofs.Common.{◌≡◌, ℕ, ◌<◌, Bool, true, false, refl, arith}
use Rattle.std.specs.Prelude.{nat_lt}
use Rattle.std.proofs.lemmas.Bool.{ltb-true}
use Rattle.std.proofs.lemmas.Bool.Decides.{nat_tests}

module _ {A : Type 0} (n : ℕ) (P : ℕ → A → Type 0) (other : A) (each : (v : ℕ) → v < n → (a : A) × P v a) where
  one : (v : ℕ) (t : Bool) → nat_lt v n ≡ t → A
  one v true e = (each v (ltb-true v n e)).0
  one v false e = other

  one_holds : (v : ℕ) → v < n → (t : Bool) (e : nat_lt v n ≡ t) → P v (one v t e)
  unfolding one
  one_holds v below true e = (each v (ltb-true v n e)).1
  one_holds v below false e = absurd (grind (arith, nat_tests))

  pub choice : ℕ → A
  choice v = one v (nat_lt v n) refl

  pub choice_holds : (v : ℕ) → v < n → P v (choice v)
  unfolding choice
  choice_holds v below = one_holds v below (nat_lt v n) refl
