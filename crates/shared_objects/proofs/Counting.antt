-- A merge has exactly the members of its parts, so two merges of the same parts pass a test equally often.
use Rattle.std.proofs.Common.{◌≡◌, ◌==◌, ℕ, ◌+◌, Bool, true, List, [], ◌∷◌, ◌++◌, length, refl, sym, ◌∙◌, ap, arith}
use Rattle.std.specs.Prelude.{cond}
use Rattle.std.specs.List.{list_all, count_by, sum_by}
use Rattle.std.proofs.lemmas.Grind.{flat_map-append}
use Rattle.std.proofs.lemmas.List.Sums.{sum_by-append, sum_by-cons}
use Rattle.net_model.specs.BlockOrder.{IsMerge, Done, Next}
use Rattle.shared_objects.specs.Rising.{together}
use Rattle.shared_objects.proofs.Alls.{not_empty}

module _ {A : Type 0} where
  none_together : (parts : List (List A)) → list_all (λ p. length p == 0) parts ≡ true → together parts ≡ []
  none_together [] h = refl
  none_together ([] ∷ parts) h = none_together parts h
  none_together ((x ∷ xs) ∷ parts) h = absurd (not_empty x xs (list_all (λ p. length p == 0) parts) h)

  sum_middle : (f : A → ℕ) (before : List (List A)) (xs : List A) (after : List (List A)) →
      sum_by f (together (before ++ xs ∷ after)) ≡ sum_by f (together before) + (sum_by f xs + sum_by f (together after))
  sum_middle f before xs after =
      ap (sum_by f) (flat_map-append (λ (ys : List A). ys) before (xs ∷ after)) ∙
      omega (arith, sum_by-append f (together before) (xs ++ together after), sum_by-append f xs (together after))

  pub merge_sum : (f : A → ℕ) {parts : List (List A)} {out : List A} → IsMerge parts out → sum_by f out ≡ sum_by f (together parts)
  merge_sum f (Done parts h) = sym (ap (sum_by f) (none_together parts h))
  merge_sum f (Next before after x rest out h) =
      omega (arith, merge_sum f h, sum_middle f before rest after, sum_middle f before (x ∷ rest) after, sum_by-cons f x out, sum_by-cons f x rest)

  sum_ones : (xs : List A) → sum_by (λ (x : A). 1) xs ≡ length xs
  sum_ones [] = refl
  sum_ones (x ∷ xs) = omega (arith, sum_ones xs, sum_by-cons (λ (x : A). 1) x xs)

  pub merge_length : {parts : List (List A)} {out : List A} → IsMerge parts out → length out ≡ length (together parts)
  merge_length {parts} {out} h = sym (sum_ones out) ∙ merge_sum (λ (x : A). 1) h ∙ sum_ones (together parts)

  pub merge_count_by : (p : A → Bool) {parts : List (List A)} {out : List A} → IsMerge parts out → count_by p out ≡ count_by p (together parts)
  merge_count_by p h = merge_sum (λ (x : A). cond (p x) 1 0) h

  -- Two merges of the same parts have the same number of members that pass a test.
  pub merges_count : (p : A → Bool) {parts : List (List A)} {out other : List A} → IsMerge parts out → IsMerge parts other → count_by p out ≡ count_by p other
  merges_count p h k = merge_count_by p h ∙ sym (merge_count_by p k)

  pub merges_length : {parts : List (List A)} {out other : List A} → IsMerge parts out → IsMerge parts other → length out ≡ length other
  merges_length h k = merge_length h ∙ sym (merge_length k)
