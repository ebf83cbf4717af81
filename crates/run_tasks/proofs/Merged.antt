-- If each element of some lists has a property, so has each element of their merge.
use Rattle.std.proofs.Common.{List, [], ◌∷◌, ◌++◌, map}
use Rattle.std.specs.List.{AllByRecursion}
use Rattle.net_model.specs.BlockOrder.{IsMerge, Done, Next}

pub all_on : {A : Type 0} (P : A → Type 0) (xs ys : List A) → AllByRecursion P xs → AllByRecursion P ys → AllByRecursion P (xs ++ ys)
all_on P [] ys h k = k
all_on P (x ∷ xs) ys h k = (h.0, all_on P xs ys h.1 k)

pub all_as : {A : Type 0} (P Q : A → Type 0) → ((x : A) → P x → Q x) → (xs : List A) → AllByRecursion P xs → AllByRecursion Q xs
all_as P Q f [] h = tt
all_as P Q f (x ∷ xs) h = (f x h.0, all_as P Q f xs h.1)

pub all_mapped : {A B : Type 0} (P : B → Type 0) (f : A → B) → ((x : A) → P (f x)) → (xs : List A) → AllByRecursion P (map f xs)
all_mapped P f is [] = tt
all_mapped P f is (x ∷ xs) = (is x, all_mapped P f is xs)

pub all_before : {A B : Type 0} (P : B → Type 0) (f : A → B) (xs : List A) → AllByRecursion P (map f xs) → AllByRecursion (λ x. P (f x)) xs
all_before P f [] h = tt
all_before P f (x ∷ xs) h = (h.0, all_before P f xs h.1)

pub all_after : {A B : Type 0} (P : B → Type 0) (f : A → B) (xs : List A) → AllByRecursion (λ x. P (f x)) xs → AllByRecursion P (map f xs)
all_after P f [] h = tt
all_after P f (x ∷ xs) h = (h.0, all_after P f xs h.1)

module _ {A : Type 0} (P : A → Type 0) where
  abbrev AreAll : List (List A) → Type 0
  AreAll parts = AllByRecursion (AllByRecursion P) parts

  -- If the elements of all parts have the property, so has the first element of a part, and so have the parts without it.
  taken : (before after : List (List A)) (x : A) (rest : List A) → AreAll (before ++ (x ∷ rest) ∷ after) → P x × AreAll (before ++ rest ∷ after)
  taken [] after x rest h = (h.0.0, (h.0.1, h.1))
  taken (part ∷ before) after x rest h = let p = taken before after x rest h.1 in (p.0, (h.0, p.1))

  pub of_parts : (parts : List (List A)) (xs : List A) → IsMerge parts xs → AreAll parts → AllByRecursion P xs
  of_parts _ [] (Done parts none) h = tt
  of_parts _ _ (Next before after x rest out merged) h = let p = taken before after x rest h in (p.0, of_parts (before ++ rest ∷ after) out merged p.1)
