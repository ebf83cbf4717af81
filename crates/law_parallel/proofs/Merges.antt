-- All merges of the same lists have the same items, equally often.
use Rattle.std.proofs.Common.{◌≡◌, ℕ, ◌+◌, Bool, true, ◌&&◌, List, [], ◌∷◌, ◌++◌, length, refl, sym, ◌∙◌, arith}
use Rattle.std.specs.Prelude.{◌==◌, count_by}
use Rattle.std.specs.List.{list_all}
use Rattle.net_model.specs.BlockOrder.{IsMerge, Done, Next}
use Rattle.law_base.proofs.Base.{and_left, and_right, and_both, eq_from}
use Rattle.law_locality.proofs.Counting.{one_if, count_more}

module _ {A : Type 0} (p : A → Bool) where
  -- How often an item is in all the lists together.
  abbrev in_parts : List (List A) → ℕ
  in_parts [] = 0
  in_parts (xs ∷ parts) = count_by p xs + in_parts parts

  one_taken : (before after : List (List A)) (x : A) (rest : List A) → in_parts (before ++ (x ∷ rest) ∷ after) ≡ one_if (p x) + in_parts (before ++ rest ∷ after)
  one_taken [] after x rest = let more = count_more p x rest in omega (arith, more)
  one_taken (xs ∷ before) after x rest = let more = one_taken before after x rest in omega (arith, more)

  none_left : (parts : List (List A)) → list_all (λ xs. length xs == 0) parts ≡ true → in_parts parts ≡ 0
  none_left [] h = refl
  none_left ([] ∷ parts) h = let rest = none_left parts h in omega (arith, rest)
  none_left ((x ∷ xs) ∷ parts) h =
      let none : length (x ∷ xs) ≡ 0 = eq_from (length (x ∷ xs)) 0 (and_left (length (x ∷ xs) == 0) (list_all (λ ys. length ys == 0) parts) h) in absurd (omega (arith, none))

  -- A merge has each item as often as the lists together.
  counted : (parts : List (List A)) (ys : List A) → IsMerge parts ys → count_by p ys ≡ in_parts parts
  counted _ [] (Done parts none) = sym (none_left parts none)
  counted _ _ (Next before after x rest out merged) =
      let more = count_more p x out in
      let taken = one_taken before after x rest in
      let same = counted (before ++ rest ∷ after) out merged in
      omega (arith, more, taken, same)

  pub same_count : (parts : List (List A)) (ys zs : List A) → IsMerge parts ys → IsMerge parts zs → count_by p ys ≡ count_by p zs
  same_count parts ys zs one other = counted parts ys one ∙ sym (counted parts zs other)

  -- What holds of all items of the lists holds of all items of their merge.

  abbrev hold : List (List A) → Bool
  hold parts = list_all (list_all p) parts

  first_holds : (before after : List (List A)) (x : A) (rest : List A) → hold (before ++ (x ∷ rest) ∷ after) ≡ true → (p x ≡ true) × (hold (before ++ rest ∷ after) ≡ true)
  first_holds [] after x rest h =
      let part = and_left (p x && list_all p rest) (hold after) h in (
        and_left (p x) (list_all p rest) part,
        and_both (list_all p rest) (hold after) (and_right (p x) (list_all p rest) part) (and_right (p x && list_all p rest) (hold after) h),
      )
  first_holds (xs ∷ before) after x rest h =
      let later = first_holds before after x rest (and_right (list_all p xs) (hold (before ++ (x ∷ rest) ∷ after)) h) in
      (later.0, and_both (list_all p xs) (hold (before ++ rest ∷ after)) (and_left (list_all p xs) (hold (before ++ (x ∷ rest) ∷ after)) h) later.1)

  pub merge_holds : (parts : List (List A)) (ys : List A) → IsMerge parts ys → hold parts ≡ true → list_all p ys ≡ true
  merge_holds _ [] (Done parts none) h = refl
  merge_holds _ _ (Next before after x rest out merged) h =
      let first = first_holds before after x rest h in
      and_both (p x) (list_all p out) first.0 (merge_holds (before ++ rest ∷ after) out merged first.1)
