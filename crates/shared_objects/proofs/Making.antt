-- A merge of lists that a function made is itself made from a merge of the original lists.
use Rattle.std.proofs.Common.{◌≡◌, ◌==◌, true, List, [], ◌∷◌, ◌++◌, length, map, refl, sym, ap, subst}
use Rattle.std.specs.List.{list_all}
use Rattle.net_model.specs.BlockOrder.{IsMerge, Done, Next}
use Rattle.shared_objects.specs.Making.{IsMade}
use Rattle.shared_objects.proofs.Alls.{not_empty}

-- two lists of the same length, whose members are related one by one

module _ {A B : Type 0} (R : A → B → Type 0) where
  abbrev Beside : List A → List B → Type 0
  Beside [] [] = Unit {0}
  Beside [] (y ∷ ys) = ⊥
  Beside (x ∷ xs) [] = ⊥
  Beside (x ∷ xs) (y ∷ ys) = R x y × Beside xs ys

module _ {A B : Type 0} (made : B → A) where
  abbrev IsOf : A → B → Type 0
  IsOf x y = made y ≡ x

  abbrev AllBeside : List (List A) → List (List B) → Type 0
  AllBeside parts kept = Beside (Beside IsOf) parts kept

  none_kept : (parts : List (List A)) (kept : List (List B)) → AllBeside parts kept → list_all (λ p. length p == 0) parts ≡ true → list_all (λ p. length p == 0) kept ≡ true
  none_kept [] [] h none = refl
  none_kept [] (ys ∷ kept) h none = absurd h
  none_kept (xs ∷ parts) [] h none = absurd h
  none_kept ([] ∷ parts) ([] ∷ kept) h none = none_kept parts kept h.1 none
  none_kept ([] ∷ parts) ((y ∷ ys) ∷ kept) h none = absurd h.0
  none_kept ((x ∷ xs) ∷ parts) (ys ∷ kept) h none =
      absurd (not_empty x xs (list_all (λ p. length p == 0) parts) none)

  -- One of the parts is x ∷ rest. The list from which this part is made begins with an item of which x is made.
  record IsSplit (before after : List (List A)) (x : A) (rest : List A) (kept : List (List B)) : Type 0 where
    front : List (List B)
    back : List (List B)
    one : B
    later : List B
    is : kept ≡ front ++ (one ∷ later) ∷ back
    here : made one ≡ x
    others : AllBeside (before ++ rest ∷ after) (front ++ later ∷ back)

  split : (before after : List (List A)) (x : A) (rest : List A) (kept : List (List B)) → AllBeside (before ++ (x ∷ rest) ∷ after) kept → IsSplit before after x rest kept
  split [] after x rest [] h = absurd h
  split [] after x rest ([] ∷ kept) h = absurd h.0
  split [] after x rest ((y ∷ ys) ∷ kept) h = record { front = []; back = kept; one = y; later = ys; is = refl; here = h.0.0; others = (h.0.1, h.1) }
  split (xs ∷ before) after x rest [] h = absurd h
  split (xs ∷ before) after x rest (ys ∷ kept) h =
      let s = split before after x rest kept h.1 in
      record { front = ys ∷ s.front; back = s.back; one = s.one; later = s.later; is = ap (λ (ks : List (List B)). ys ∷ ks) s.is; here = s.here; others = (h.0, s.others) }

  go_beside : (parts : List (List A)) (kept : List (List B)) (out : List A) → IsMerge parts out → AllBeside parts kept → IsMade made kept out
  go_beside _ kept [] (Done parts none) h = record { merge = []; is = Done kept (none_kept parts kept h none); of = refl }
  go_beside _ kept _ (Next before after x rest out merged) h =
      let s = split before after x rest kept h in
      let g = go_beside (before ++ rest ∷ after) (s.front ++ s.later ∷ s.back) out merged s.others in
      let one = s.here in
      let more = g.of in
      record { merge = s.one ∷ g.merge; is = subst (λ (ks : List (List B)). IsMerge ks (s.one ∷ g.merge)) (sym s.is) (Next s.front s.back s.one s.later g.merge g.is); of = λ i. one i ∷ more i }

  one_beside : (ys : List B) → Beside IsOf (map made ys) ys
  one_beside [] = tt
  one_beside (y ∷ ys) = (refl, one_beside ys)

  all_beside : (kept : List (List B)) → AllBeside (map (map made) kept) kept
  all_beside [] = tt
  all_beside (ys ∷ kept) = (one_beside ys, all_beside kept)

  pub made_of : (kept : List (List B)) (out : List A) → IsMerge (map (map made) kept) out → IsMade made kept out
  made_of kept out merged = go_beside (map (map made) kept) kept out merged (all_beside kept)
