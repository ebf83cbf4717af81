-- The witness meets the definition of a network.
use Rattle.std.proofs.Common.{◌≡◌, ℕ, zero, suc, ◌<◌, ◌&&◌, true, false, subst, arith, inl, inr}
use Rattle.std.specs.Prelude.{◌==◌}
use Rattle.net_model.specs.Premises.{IsLink, IsAllowed, IsNetwork}
use Rattle.net_model.specs.Sealing.{IsSealing}
use Rattle.hop_frames.specs.Sealing.{hop_sealing}
use Rattle.law_base.proofs.Base.{eq_from, and_left, and_right, or_cases}
use Rattle.model_examples.specs.Witness.{here}

ends : (l : ℕ) → l < 1 → IsLink here.site l
ends zero h = record { order = omega (arith); within = omega (arith) }
ends (suc n) h = absurd (omega (arith, h))

single : (l k : ℕ) → l < 1 → k < 1 → l ≡ k
single l k h g = omega (arith, h, g)

zero_one : IsAllowed here.site 0 1
zero_one = record { first_number = omega (arith); last_number = omega (arith); first_home = omega (arith); last_home = omega (arith); apart = λ e. cc }

the_pair : (first last : ℕ) → 0 ≡ first → 1 ≡ last → IsAllowed here.site first last
the_pair first last e g = subst (λ (a : ℕ). IsAllowed here.site a last) e (subst (λ (b : ℕ). IsAllowed here.site 0 b) g zero_one)

pairs : (first last : ℕ) → here.site.allowed first last ≡ true → IsAllowed here.site first last
pairs first last h = elim (or_cases ((0 == first) && (1 == last)) false h) [
  | inl x ↦ the_pair first last (eq_from 0 first (and_left (0 == first) (1 == last) x)) (eq_from 1 last (and_right (0 == first) (1 == last) x))
  | inr x ↦ cc
]

pub is_network : IsSealing hop_sealing → IsNetwork here
is_network f = record {
  site = record {
    nodes = omega (arith);
    links = omega (arith);
    ends = ends;
    single = λ l k h g x y. single l k h g;
    pairs = pairs;
  };
  sealing = f;
  devices = λ l i. omega (arith);
  entropies = λ v i. omega (arith);
}
