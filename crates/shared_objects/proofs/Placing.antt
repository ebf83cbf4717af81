-- Calls with their places form a merge where calls without their places do.
use Rattle.std.proofs.Common.{◌≡◌, ℕ, zero, suc, ◌+◌, ◌<◌, List, [], ◌∷◌, ◌++◌, length, map, refl, sym, ◌∙◌, ap, ap₂, subst, arith}
use Rattle.std.specs.List.{AllByRecursion}
use Rattle.std.proofs.lemmas.List.{map-append}
use mathlib.Core.Option.{some, some-injective, some-ne-none}
use lib.ListN.{get_elem?}
use Rattle.net_model.specs.BlockOrder.{IsMerge}
use Rattle.turnstile.specs.Views.{times, once_below, places, Stands, IsWhole}
use Rattle.shared_objects.specs.Rising.{entries, Rises, placed_from, together}
use Rattle.shared_objects.proofs.CallMerge.{calls_merge}

module _ {E : Type 0} where
  pub placed_length : (k : ℕ) (log : List E) → length (placed_from k log) ≡ length log
  placed_length k [] = refl
  placed_length k (x ∷ log) = ap suc (placed_length (k + 1) log)

  -- the entry at an index of the placed history, with its place
  placed_at : (k : ℕ) (log : List E) (i : ℕ) (e : E) → get_elem? log i ≡ some e → get_elem? (placed_from k log) i ≡ some (k + i, e)
  placed_at k [] i e at = absurd (some-ne-none e (sym at))
  placed_at k (x ∷ log) zero e at =
      let same : x ≡ e = some-injective x e at in
      let here : k ≡ k + zero = omega arith in
      ap₂ (λ (n : ℕ) (y : E). some (n, y)) here same
  placed_at k (x ∷ log) (suc i) e at =
      let next : k + 1 + i ≡ k + suc i = omega arith in
      placed_at (k + 1) log i e at ∙ ap (λ (n : ℕ). some (n, e)) next

  -- a call with its place, as an entry with its place
  abbrev with_place : ℕ × E → ℕ × (ℕ × E)
  with_place c = (c.0, c)

  same_places : (calls : List (ℕ × E)) → places (map with_place calls) ≡ places calls
  same_places [] = refl
  same_places (c ∷ cs) = ap (λ (ps : List ℕ). c.0 ∷ ps) (same_places cs)

  same_calls : (calls : List (ℕ × E)) → entries (map with_place calls) ≡ calls
  same_calls [] = refl
  same_calls (c ∷ cs) = ap (λ (ds : List (ℕ × E)). c ∷ ds) (same_calls cs)

  all_calls : (parts : List (List (ℕ × E))) → map entries (map (map with_place) parts) ≡ parts
  all_calls [] = refl
  all_calls (p ∷ ps) = ap₂ (λ (q : List (ℕ × E)) (qs : List (List (ℕ × E))). q ∷ qs) (same_calls p) (all_calls ps)

  all_together : (parts : List (List (ℕ × E))) → together (map (map with_place) parts) ≡ map with_place (together parts)
  all_together [] = refl
  all_together (p ∷ ps) = ap (λ (u : List (ℕ × (ℕ × E))). map with_place p ++ u) (all_together ps) ∙ sym (map-append with_place p (together ps))

  stand : (calls : List (ℕ × E)) (log : List E) → Stands calls log → Stands (map with_place calls) (placed_from 0 log)
  stand [] log h = tt
  stand (c ∷ cs) log h =
      let here : 0 + c.0 ≡ c.0 = omega arith in
      (placed_at 0 log c.0 c.1 h.0 ∙ ap (λ (n : ℕ). some (n, c.1)) here, stand cs log h.1)

  rise : (calls : List (ℕ × E)) → Rises calls → Rises (map with_place calls)
  rise [] h = tt
  rise (c ∷ cs) h = (subst (λ (ps : List ℕ). AllByRecursion (λ p. c.0 < p) ps) (sym (same_places cs)) h.0, rise cs h.1)

  all_rise : (parts : List (List (ℕ × E))) → AllByRecursion Rises parts → AllByRecursion Rises (map (map with_place) parts)
  all_rise [] h = tt
  all_rise (p ∷ ps) h = (rise p h.0, all_rise ps h.1)

  whole : (calls : List (ℕ × E)) (log : List E) → IsWhole calls log → IsWhole (map with_place calls) (placed_from 0 log)
  whole calls log h =
      (stand calls log h.0, λ x. ap (times x) (same_places calls) ∙ h.1 x ∙ ap (once_below x) (sym (placed_length 0 log)))

  pub placed_calls_merge : (parts : List (List (ℕ × E))) (log : List E) → AllByRecursion Rises parts → IsWhole (together parts) log → IsMerge parts (placed_from 0 log)
  placed_calls_merge parts log rises all =
      subst (λ (ps : List (List (ℕ × E))). IsMerge ps (placed_from 0 log)) (all_calls parts)
      (calls_merge (map (map with_place) parts) (placed_from 0 log) (all_rise parts rises)
      (subst (λ (calls : List (ℕ × (ℕ × E))). IsWhole calls (placed_from 0 log)) (sym (all_together parts)) (whole (together parts) log all)))
