-- A merge of lists whose elements are each replaced by a list.
use Rattle.std.proofs.Common.{◌≡◌, ◌==◌, true, List, [], ◌∷◌, ◌++◌, length, map, refl, sym, subst}
use Rattle.std.specs.List.{list_all, flat_map}
use Rattle.std.proofs.lemmas.List.{map-append}
use Rattle.net_model.specs.BlockOrder.{IsMerge, Done, Next}
use Rattle.shared_objects.proofs.Alls.{not_empty}

-- Elements put before one of the parts, and before the merge, give a merge again.
goes_before : {B : Type 0} (before after : List (List B)) (xs rest out : List B) → IsMerge (before ++ rest ∷ after) out → IsMerge (before ++ (xs ++ rest) ∷ after) (xs ++ out)
goes_before before after [] rest out m = m
goes_before before after (x ∷ xs) rest out m = Next before after x (xs ++ rest) (xs ++ out) (goes_before before after xs rest out m)

module _ {A B : Type 0} (f : A → List B) where
  none_made : (parts : List (List A)) → list_all (λ p. length p == 0) parts ≡ true → list_all (λ p. length p == 0) (map (flat_map f) parts) ≡ true
  none_made [] h = refl
  none_made ([] ∷ parts) h = none_made parts h
  none_made ((x ∷ xs) ∷ parts) h = absurd (not_empty x xs (list_all (λ p. length p == 0) parts) h)

  pub merge_made : (parts : List (List A)) (out : List A) → IsMerge parts out → IsMerge (map (flat_map f) parts) (flat_map f out)
  merge_made _ [] (Done parts none) = Done (map (flat_map f) parts) (none_made parts none)
  merge_made _ _ (Next before after x rest out m) =
      subst (λ ps. IsMerge ps (f x ++ flat_map f out)) (sym (map-append (flat_map f) before ((x ∷ rest) ∷ after)))
      (goes_before (map (flat_map f) before) (map (flat_map f) after) (f x) (flat_map f rest) (flat_map f out)
      (subst (λ ps. IsMerge ps (flat_map f out)) (map-append (flat_map f) before (rest ∷ after)) (merge_made (before ++ rest ∷ after) out m)))
