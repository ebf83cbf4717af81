-- A property holds of all members of a merge exactly where it holds of all members of all its parts.
use Rattle.std.proofs.Common.{◌≡◌, ◌==◌, Bool, true, false, ◌&&◌, List, [], ◌∷◌, length, refl, sym, ◌∙◌, ap}
use Rattle.std.specs.List.{list_all, AllByRecursion}
use Rattle.std.proofs.lemmas.List.Folds.{list_all-append}
use Rattle.net_model.specs.BlockOrder.{IsMerge, Done, Next}
use Rattle.shared_objects.proofs.Alls.{all_one, all_change, not_empty, empty_all}

module _ {A : Type 0} (P : A → Type 0) where
  abbrev Each : List A → Type 0
  Each xs = AllByRecursion P xs

  pub all_of_merge : {parts : List (List A)} {out : List A} → IsMerge parts out → AllByRecursion (λ xs. AllByRecursion P xs) parts → AllByRecursion P out
  all_of_merge (Done parts none) h = tt
  all_of_merge (Next before after x rest out m) h =
      ((all_one Each before (x ∷ rest) after h).0, all_of_merge m (all_change Each before (x ∷ rest) rest after (λ t. t.1) h))

  pub all_of_parts : {parts : List (List A)} {out : List A} → IsMerge parts out → AllByRecursion P out → AllByRecursion (λ xs. AllByRecursion P xs) parts
  all_of_parts (Done parts none) h = empty_all Each tt parts none
  all_of_parts (Next before after x rest out m) h = all_change Each before rest (x ∷ rest) after (λ t. (h.0, t)) (all_of_parts m h.1)

module _ {A : Type 0} (p : A → Bool) where
  abbrev passes : List A → Bool
  passes xs = list_all p xs

  empty_pass : (parts : List (List A)) → list_all (λ xs. length xs == 0) parts ≡ true → list_all passes parts ≡ true
  empty_pass [] h = refl
  empty_pass ([] ∷ parts) h = empty_pass parts h
  empty_pass ((x ∷ xs) ∷ parts) h = absurd (not_empty x xs (list_all (λ p. length p == 0) parts) h)

  to_front : (before one rest after : Bool) → (one && (before && (rest && after))) ≡ (before && ((one && rest) && after))
  to_front true true rest after = refl
  to_front true false rest after = refl
  to_front false true rest after = refl
  to_front false false rest after = refl

  pub merge_test : {parts : List (List A)} {out : List A} → IsMerge parts out → list_all p out ≡ list_all (λ xs. list_all p xs) parts
  merge_test (Done parts h) = sym (empty_pass parts h)
  merge_test (Next before after x rest out m) =
      ap (λ (t : Bool). p x && t) (merge_test m ∙ list_all-append passes before (rest ∷ after)) ∙
      to_front (list_all passes before) (p x) (passes rest) (list_all passes after) ∙
      sym (list_all-append passes before ((x ∷ rest) ∷ after))
