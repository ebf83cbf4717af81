-- Each turn orders a frame at most once, and each line has at most one turn.
use Rattle.std.proofs.Common.{◌≡◌, ℕ, zero, suc, ◌≤◌, Bool, true, false, ◌&&◌, List, [], ◌∷◌, map, refl, ap, arith, Some}
use Rattle.std.specs.Prelude.{◌==◌, count_by, slice_get}
use Rattle.std.specs.List.{AllByRecursion}
use Rattle.net_model.specs.Tick.{Emission}
use Rattle.run_model.specs.Works.{Done, wanted_put}
use Rattle.law_base.proofs.Base.{and_both, eq_same}
use Rattle.law_locality.proofs.Counting.{one_if, count_more}
use Rattle.law_parallel.specs.Putting.{wanted_by}
use Rattle.law_parallel.proofs.Counting.{count-append, count-map, counted_none, found_there}
use Rattle.law_parallel.proofs.Once.{AreOnce}
use Rattle.law_parallel.proofs.Places.{is_of}
use Rattle.law_parallel.proofs.Same.{is_same, same_self}

-- The test that this frame was ordered for this place.
abbrev pub is_wanted_as : (place : ℕ) → Emission → ℕ × Emission → Bool
is_wanted_as place e x = (x.0 == place) && is_same e x.1

abbrev pub is_for : ℕ → Done → Bool
is_for place d = is_of place d.work

module _ (place : ℕ) (e : Emission) where
  abbrev mine : Done → List (ℕ × Emission)
  mine d = map (λ x. (d.work.place, x)) (wanted_put d.outcome)

  in_one : (d : Done) → count_by (is_wanted_as place e) (mine d) ≡ count_by (λ x. (d.work.place == place) && is_same e x) (wanted_put d.outcome)
  in_one d = count-map (is_wanted_as place e) (λ x. (d.work.place, x)) (wanted_put d.outcome)

  few_in_one : (d : Done) → AreOnce (wanted_put d.outcome) → count_by (is_wanted_as place e) (mine d) ≤ one_if (is_for place d)
  few_in_one d once =
      let counted = in_one d in
      elim (d.work.place == place) as (λ t. count_by (is_wanted_as place e) (mine d) ≡ count_by (λ x. t && is_same e x) (wanted_put d.outcome) →
      count_by (is_wanted_as place e) (mine d) ≤ one_if t) [
        | true ↦ λ c. let few = once e in omega (arith, c, few)
        | false ↦ λ c. let none = counted_none (λ (x : Emission). false) (λ x. refl) (wanted_put d.outcome) in omega (arith, c, none)
      ] counted

  few_wanted : (done : List Done) → AllByRecursion (λ (d : Done). AreOnce (wanted_put d.outcome)) done → count_by (is_wanted_as place e) (wanted_by done) ≤ count_by (is_for place) done
  few_wanted [] once = omega arith
  few_wanted (d ∷ done) once =
      let both = count-append (is_wanted_as place e) (mine d) (wanted_by done) in
      let one = few_in_one d once.0 in
      let rest = few_wanted done once.1 in
      let more = count_more (is_for place) d done in
      omega (arith, both, one, rest, more)

  is_there : (done : List Done) (i : ℕ) (d : Done) → slice_get done i ≡ Some d → count_by (is_wanted_as place e) (mine d) ≤ count_by (is_wanted_as place e) (wanted_by done)
  is_there [] i d at = cc
  is_there (x ∷ done) zero d at =
      let is : x ≡ d = cc in
      let both = count-append (is_wanted_as place e) (mine x) (wanted_by done) in
      let same : count_by (is_wanted_as place e) (mine x) ≡ count_by (is_wanted_as place e) (mine d) = ap (λ (y : Done). count_by (is_wanted_as place e) (mine y)) is in
      omega (arith, both, same)
  is_there (x ∷ done) (suc i) d at =
      let both = count-append (is_wanted_as place e) (mine x) (wanted_by done) in
      let rest = is_there done i d at in
      omega (arith, both, rest)

pub wanted_once : (done : List Done) → AllByRecursion (λ (d : Done). AreOnce (wanted_put d.outcome)) done → ((place : ℕ) → count_by (is_for place) done ≤ 1) →
    (i : ℕ) (d : Done) → slice_get done i ≡ Some d → (k : ℕ) (e : Emission) → slice_get (wanted_put d.outcome) k ≡ Some e →
    count_by (is_wanted_as d.work.place e) (wanted_by done) ≡ 1
wanted_once done once one i d at k e there =
    let place : ℕ = d.work.place in
    let few = few_wanted place e done once in
    let most = one place in
    let is = is_there place e done i d at in
    let counted = in_one place e d in
    let found = found_there (λ x. (place == place) && is_same e x) (wanted_put d.outcome) k e there (and_both (place == place) (is_same e e) (eq_same place) (same_self e)) in
    omega (arith, few, most, is, counted, found)
