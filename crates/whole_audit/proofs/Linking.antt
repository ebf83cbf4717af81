-- How the set of links that are down changes with an item.
use Rattle.std.proofs.Common.{◌≡◌, ℕ, Bool, true, false, not, ◌||◌, cond, eqb, List, ◌∷◌, Option, Some, None, refl, sym, ap, ◌∙◌}
use Rattle.std.specs.Str.{bytes_eq}
use Rattle.ordered_set.specs.Entries.{has_entry}
use Rattle.run_types.specs.declared.item.NumberedItem.{NumberedItem}
use Rattle.whole_audit.specs.Claims.{link_set, is_up_behind, is_up}
use Rattle.whole_audit.specs.Kept.{number_entry, has_number, AreDown}
use Rattle.whole_audit.proofs.Walking.{number_entries}

module _ (old : List (List ℕ)) (told : NumberedItem) (before : List NumberedItem) (down : AreDown old before) where
  pub not_set : link_set told.item ≡ None → AreDown old (told ∷ before)
  not_set none k = down k ∙ ap (λ (o : Option (ℕ × Bool)). not (is_up_behind o k (is_up k before))) (sym none)

  pub set_up : (new : List (List ℕ)) (link : ℕ) → link_set told.item ≡ Some (link, true) → ((e : List ℕ) → has_entry new e ≡ cond (bytes_eq (number_entry link) e) false (has_entry old e)) → AreDown new (told ∷ before)
  set_up new link is put k =
      put (number_entry k)
      ∙ ap (λ (b : Bool). cond b false (has_number old k)) (number_entries link k)
      ∙ ap (λ (b : Bool). cond (eqb link k) false b) (down k)
      ∙ flip (eqb link k) (is_up k before)
      ∙ ap (λ (o : Option (ℕ × Bool)). not (is_up_behind o k (is_up k before))) (sym is)
    where
      flip : (a b : Bool) → cond a false (not b) ≡ not (cond a true b)
      flip true b = refl
      flip false b = refl

  pub set_down : (new : List (List ℕ)) (link : ℕ) → link_set told.item ≡ Some (link, false) → ((e : List ℕ) → has_entry new e ≡ (bytes_eq (number_entry link) e || has_entry old e)) → AreDown new (told ∷ before)
  set_down new link is put k =
      put (number_entry k)
      ∙ ap (λ (b : Bool). b || has_number old k) (number_entries link k)
      ∙ ap (λ (b : Bool). eqb link k || b) (down k)
      ∙ flip (eqb link k) (is_up k before)
      ∙ ap (λ (o : Option (ℕ × Bool)). not (is_up_behind o k (is_up k before))) (sym is)
    where
      flip : (a b : Bool) → (a || not b) ≡ not (cond a false b)
      flip true b = refl
      flip false b = refl
