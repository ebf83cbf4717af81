-- What holds of each member of a list, also when one member is replaced.
use Rattle.std.proofs.Common.{◌≡◌, ◌==◌, ◌&&◌, Bool, true, false, List, [], ◌∷◌, ◌++◌, length, sym, ◌∙◌, ap, arith, ne_eqb}
use mathlib.Core.Bool.{false≢true}
use Rattle.std.specs.List.{list_all, AllByRecursion}

module _ {A : Type 0} (P : A → Type 0) where
  pub all_one : (before : List A) (x : A) (after : List A) → AllByRecursion P (before ++ x ∷ after) → P x
  all_one [] x after h = h.0
  all_one (y ∷ ys) x after h = all_one ys x after h.1

  pub all_change : (before : List A) (x y : A) (after : List A) → (P x → P y) → AllByRecursion P (before ++ x ∷ after) → AllByRecursion P (before ++ y ∷ after)
  all_change [] x y after f h = (f h.0, h.1)
  all_change (z ∷ zs) x y after f h = (h.0, all_change zs x y after f h.1)

  pub all_last : (xs : List A) (y : A) → AllByRecursion P xs → P y → AllByRecursion P (xs ++ y ∷ [])
  all_last [] y h last = (last, tt)
  all_last (x ∷ xs) y h last = (h.0, all_last xs y h.1 last)

  pub all_map : (Q : A → Type 0) → ((x : A) → P x → Q x) → (xs : List A) → AllByRecursion P xs → AllByRecursion Q xs
  all_map Q f [] h = tt
  all_map Q f (x ∷ xs) h = (f x h.0, all_map Q f xs h.1)

-- A list that has a first member is not empty.
pub not_empty : {A : Type 0} (x : A) (xs : List A) (b : Bool) → ((length (x ∷ xs) == 0) && b) ≡ true → ⊥
not_empty x xs b h =
    let no : (length (x ∷ xs) == 0) ≡ false = ne_eqb (length (x ∷ xs)) 0 (λ e. absurd (omega (arith, e))) in
    false≢true (sym (ap (λ (t : Bool). t && b) no) ∙ h)

-- What holds of the empty list holds of each part, if all parts are empty.
pub empty_all : {A : Type 0} (P : List A → Type 0) → P [] → (parts : List (List A)) → list_all (λ p. length p == 0) parts ≡ true → AllByRecursion P parts
empty_all P none [] h = tt
empty_all P none ([] ∷ parts) h = (none, empty_all P none parts h)
empty_all P none ((x ∷ xs) ∷ parts) h = absurd (not_empty x xs (list_all (λ p. length p == 0) parts) h)
