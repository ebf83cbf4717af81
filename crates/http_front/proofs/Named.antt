-- Fields by name, from the first one on.
use Rattle.std.proofs.Common.{◌≡◌, ℕ, ◌+◌, ◌<◌, true, false, List, ◌∷◌, length, get_or, drop, refl, sym, ap, ◌∙◌}
use Rattle.std.proofs.lemmas.List.{drop_more}
use Rattle.http_front.specs.Fields.{Pair, is_named, values_of}

-- the values of the fields from an index on, by whether the field there has the name
pub values-here : (name : List ℕ) (fields : List Pair) (i : ℕ) (f : Pair) → i < length fields → f ≡ get_or fields i f → is_named name f ≡ true
    → values_of name (drop i fields) ≡ f.1 ∷ values_of name (drop (i + 1) fields)
values-here name fields i f lt here named =
    let e : drop i fields ≡ f ∷ drop (i + 1) fields = drop_more fields i f lt ∙ ap (λ (g : Pair). g ∷ drop (i + 1) fields) (sym here) in
    ap (values_of name) e ∙ rw named refl

pub values-passed : (name : List ℕ) (fields : List Pair) (i : ℕ) (f : Pair) → i < length fields → f ≡ get_or fields i f → is_named name f ≡ false
    → values_of name (drop i fields) ≡ values_of name (drop (i + 1) fields)
values-passed name fields i f lt here other =
    let e : drop i fields ≡ f ∷ drop (i + 1) fields = drop_more fields i f lt ∙ ap (λ (g : Pair). g ∷ drop (i + 1) fields) (sym here) in
    ap (values_of name) e ∙ rw other refl
