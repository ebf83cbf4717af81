-- The last element of a list passes a test or not.
use Rattle.std.proofs.Common.{◌≡◌, Bool, true, false, List, [], ◌∷◌, ◌++◌, ◌∙◌, ap, append-nil}
use Rattle.std.specs.Prelude.{filter}
use Rattle.std.proofs.lemmas.List.Elements.{filter-append}
use Rattle.law_base.proofs.Base.{when_true, when_false}

pub passes : {A : Type 0} (p : A → Bool) (xs : List A) (x : A) → p x ≡ true → filter p (xs ++ x ∷ []) ≡ filter p xs ++ x ∷ []
passes p xs x e = filter-append p xs (x ∷ []) ∙ ap (λ ys. filter p xs ++ ys) (when_true (p x) (x ∷ []) [] e)

pub fails : {A : Type 0} (p : A → Bool) (xs : List A) (x : A) → p x ≡ false → filter p (xs ++ x ∷ []) ≡ filter p xs
fails p xs x e = filter-append p xs (x ∷ []) ∙ ap (λ ys. filter p xs ++ ys) (when_false (p x) (x ∷ []) [] e) ∙ append-nil (filter p xs)
