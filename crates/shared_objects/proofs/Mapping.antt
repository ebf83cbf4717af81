-- A function applied to all members of a merge gives a merge of the parts with the function applied.
use Rattle.std.proofs.Common.{◌≡◌, ◌==◌, true, List, [], ◌∷◌, length, map, refl, sym, subst}
use Rattle.std.specs.List.{list_all}
use Rattle.std.proofs.lemmas.List.{map-append}
use Rattle.net_model.specs.BlockOrder.{IsMerge, Done, Next}
use Rattle.shared_objects.proofs.Alls.{not_empty}

module _ {A B : Type 0} (f : A → B) where
  empty_map : (parts : List (List A)) → list_all (λ p. length p == 0) parts ≡ true → list_all (λ p. length p == 0) (map (map f) parts) ≡ true
  empty_map [] h = refl
  empty_map ([] ∷ parts) h = empty_map parts h
  empty_map ((x ∷ xs) ∷ parts) h = absurd (not_empty x xs (list_all (λ p. length p == 0) parts) h)

  pub merge_map : {parts : List (List A)} {out : List A} → IsMerge parts out → IsMerge (map (map f) parts) (map f out)
  merge_map (Done parts h) = Done (map (map f) parts) (empty_map parts h)
  merge_map (Next before after x rest out m) =
      subst (λ ps. IsMerge ps (f x ∷ map f out)) (sym (map-append (map f) before ((x ∷ rest) ∷ after)))
      (Next (map (map f) before) (map (map f) after) (f x) (map f rest) (map f out)
      (subst (λ ps. IsMerge ps (map f out)) (map-append (map f) before (rest ∷ after)) (merge_map m)))
