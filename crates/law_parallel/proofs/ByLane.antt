-- An item that is listed once on its own lane is listed once in the concatenation of all lanes.
use Rattle.std.proofs.Common.{◌≡◌, ℕ, ◌≤◌, Bool, true, false, List, [], ◌∷◌, refl, sym, ◌∙◌, ap, arith}
use Rattle.std.specs.Prelude.{count_by}
use Rattle.std.specs.List.{list_any, flat_map}
use Rattle.qkd_base.specs.Lane.{lane_eq}
use Rattle.qkd_base.specs.declared.lane.Lane.{Lane}
use Rattle.net_model.specs.Site.{Site}
use Rattle.law_base.proofs.Base.{lane_eq_from, or_first, or_second}
use Rattle.law_invariant.proofs.Outgoing.{AreOutgoing}
use Rattle.law_parallel.proofs.Counting.{count-append}

module _ {A : Type 0} (f : Lane → List A) (p : A → Bool) (k : Lane) (elsewhere : (l : Lane) → lane_eq l k ≡ false → count_by p (f l) ≡ 0) where
  none_by_lane : (ls : List Lane) → list_any (λ l. lane_eq l k) ls ≡ false → count_by p (flat_map f ls) ≡ 0
  none_by_lane [] h = refl
  none_by_lane (l ∷ ls) h =
      let rest = none_by_lane ls (or_second (lane_eq l k) (list_any (λ m. lane_eq m k) ls) h) in
      let none = elsewhere l (or_first (lane_eq l k) (list_any (λ m. lane_eq m k) ls) h) in
      let both = count-append p (f l) (flat_map f ls) in
      omega (arith, rest, none, both)

  pub once_by_lane : count_by p (f k) ≤ 1 → (s : Site) (v : ℕ) (ls : List Lane) → AreOutgoing s v ls → count_by p (flat_map f ls) ≤ 1
  once_by_lane h s v [] ok = omega arith
  once_by_lane h s v (l ∷ ls) ok =
      let both = count-append p (f l) (flat_map f ls) in
      elim (lane_eq l k) as (λ t. lane_eq l k ≡ t → count_by p (flat_map f (l ∷ ls)) ≤ 1) [
        | true ↦ λ e.
            let is : l ≡ k = lane_eq_from l k e in
            let rest = none_by_lane ls (ap (λ (m : Lane). list_any (λ n. lane_eq n m) ls) (sym is) ∙ ok.1) in
            let here : count_by p (f l) ≡ count_by p (f k) = ap (λ (m : Lane). count_by p (f m)) is in
            omega (arith, h, rest, here, both)
        | false ↦ λ e.
            let none = elsewhere l e in
            let rest = once_by_lane h s v ls ok.2 in
            omega (arith, none, rest, both)
      ] refl
