-- If calls with their places make up a history, they still do after each is mapped to another form.
use Rattle.std.proofs.Common.{◌≡◌, ℕ, zero, suc, List, [], ◌∷◌, map, refl, sym, ap, ◌∙◌}
use Rattle.std.proofs.lemmas.List.{length-map}
use mathlib.Core.Option.{some}
use lib.ListN.{get_elem?}
use Rattle.turnstile.specs.Views.{times, once_below, places, Stands, IsWhole}

module _ {A B : Type 0} (f : A → B) where
  -- a call in the other form
  abbrev pub told : ℕ × A → ℕ × B
  told c = (c.0, f c.1)

  same_places : (calls : List (ℕ × A)) → places (map told calls) ≡ places calls
  same_places [] = refl
  same_places (c ∷ calls) = ap (λ (ps : List ℕ). c.0 ∷ ps) (same_places calls)

  at_told : (log : List A) (k : ℕ) (x : A) → get_elem? log k ≡ some x → get_elem? (map f log) k ≡ some (f x)
  at_told [] k x h = cc
  at_told (y ∷ log) zero x h = let is : y ≡ x = cc in ap (λ (z : A). some (f z)) is
  at_told (y ∷ log) (suc k) x h = at_told log k x h

  stand_told : (calls : List (ℕ × A)) (log : List A) → Stands calls log → Stands (map told calls) (map f log)
  stand_told [] log h = tt
  stand_told (c ∷ calls) log h = (at_told log c.0 c.1 h.0, stand_told calls log h.1)

  pub whole_told : (calls : List (ℕ × A)) (log : List A) → IsWhole calls log → IsWhole (map told calls) (map f log)
  whole_told calls log h = (
    stand_told calls log h.0,
    λ x. ap (times x) (same_places calls) ∙ h.1 x ∙ ap (once_below x) (sym (length-map log f)),
  )
