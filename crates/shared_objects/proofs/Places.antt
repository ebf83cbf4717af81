-- Rows of seats, changed in one place after the other.
use Rattle.std.proofs.Common.{◌≡◌, ◌⊎◌, ℕ, ◌+◌, ◌<◌, ◌≤◌, true, false, List, [], ◌∷◌, ◌++◌, map, length, set, get_or, slice_get, Some, eqb, refl, sym, ap, ap₂, subst, ◌∙◌, arith, inl, inr}
use Rattle.std.proofs.lemmas.Bool.Decides.{eqb_tells}
use Rattle.shared_objects.proofs.Zips.{was_at, new_at, other_at}

front : {X : Type 0} (xs : List X) (x : X) (ys : List X) → slice_get ((xs ++ x ∷ []) ++ ys) (length xs) ≡ Some x
front [] x ys = refl
front (z ∷ zs) x ys = front zs x ys

-- the item just after the first k items
pub seam : {X : Type 0} (xs : List X) (x : X) (ys all : List X) (k : ℕ) → (xs ++ x ∷ []) ++ ys ≡ all → length xs ≡ k → slice_get all k ≡ Some x
seam {X} xs x ys all k e n = subst (λ (zs : List X). slice_get zs k ≡ Some x) e (subst (λ (j : ℕ). slice_get ((xs ++ x ∷ []) ++ ys) j ≡ Some x) n (front xs x ys))

-- A row is combined with another one place by place, beginning with the last place.
module _ {X B : Type 0} (op : B → B → B) (f : X → B) (d : B) (first now full : List X) (k : ℕ) (p p' last : X) (there : slice_get now k ≡ Some p) (other : slice_get full k ≡ Some last) (is : f p' ≡ op (f p) (f last))
    (done : (i : ℕ) → k + 1 ≤ i → get_or (map f now) i d ≡ op (get_or (map f first) i d) (get_or (map f full) i d)) (left : (i : ℕ) → i < k + 1 → get_or (map f now) i d ≡ get_or (map f first) i d) where
  done_case : (i : ℕ) → k ≤ i → ((eqb k i ≡ true) × (k ≡ i)) ⊎ ((eqb k i ≡ false) × (k ≡ i → ⊥)) → get_or (map f (set now k p')) i d ≡ op (get_or (map f first) i d) (get_or (map f full) i d)
  done_case i h (inl (b, e)) =
      subst (λ (j : ℕ). get_or (map f (set now k p')) j d ≡ op (get_or (map f first) j d) (get_or (map f full) j d)) e
      (new_at f d now k p p' there ∙ is ∙ ap₂ op (sym (was_at f d now k p there) ∙ left k (omega arith)) (sym (was_at f d full k last other)))
  done_case i h (inr (b, n)) = other_at f d now k i p' n ∙ done i (omega (arith, h, n))

  pub done_on : (i : ℕ) → k ≤ i → get_or (map f (set now k p')) i d ≡ op (get_or (map f first) i d) (get_or (map f full) i d)
  done_on i h = done_case i h (eqb_tells k i)

  pub left_on : (i : ℕ) → i < k → get_or (map f (set now k p')) i d ≡ get_or (map f first) i d
  left_on i h = other_at f d now k i p' (λ e. absurd (omega (arith, h, e))) ∙ left i (omega arith)

-- A change of one item leaves a part of it unchanged, so that part is unchanged in the whole row.
module _ {X B : Type 0} (f : X → B) (d : B) (now : List X) (k : ℕ) (p p' : X) (there : slice_get now k ≡ Some p) (is : f p' ≡ f p) where
  by_case : (i : ℕ) → ((eqb k i ≡ true) × (k ≡ i)) ⊎ ((eqb k i ≡ false) × (k ≡ i → ⊥)) → get_or (map f (set now k p')) i d ≡ get_or (map f now) i d
  by_case i (inl (b, e)) = subst (λ (j : ℕ). get_or (map f (set now k p')) j d ≡ get_or (map f now) j d) e (new_at f d now k p p' there ∙ is ∙ sym (was_at f d now k p there))
  by_case i (inr (b, n)) = other_at f d now k i p' n

  pub same_on : (i : ℕ) → get_or (map f (set now k p')) i d ≡ get_or (map f now) i d
  same_on i = by_case i (eqb_tells k i)

-- A row's numbers are reduced by a part place by place, beginning with the first place.
module _ {X : Type 0} (f : X → ℕ) (part : ℕ) (first now : List X) (k : ℕ) (p p' : X) (there : slice_get now k ≡ Some p) (is : f p' + part ≡ f p)
    (done : (i : ℕ) → i < k → get_or (map f now) i 0 + part ≡ get_or (map f first) i 0) (left : (i : ℕ) → k ≤ i → get_or (map f now) i 0 ≡ get_or (map f first) i 0) where
  part_case : (i : ℕ) → i < k + 1 → ((eqb k i ≡ true) × (k ≡ i)) ⊎ ((eqb k i ≡ false) × (k ≡ i → ⊥)) → get_or (map f (set now k p')) i 0 + part ≡ get_or (map f first) i 0
  part_case i h (inl (b, e)) =
      subst (λ (j : ℕ). get_or (map f (set now k p')) j 0 + part ≡ get_or (map f first) j 0) e
      (ap (λ (n : ℕ). n + part) (new_at f 0 now k p p' there) ∙ is ∙ sym (was_at f 0 now k p there) ∙ left k (omega arith))
  part_case i h (inr (b, n)) = ap (λ (m : ℕ). m + part) (other_at f 0 now k i p' n) ∙ done i (omega (arith, h, n))

  pub part_on : (i : ℕ) → i < k + 1 → get_or (map f (set now k p')) i 0 + part ≡ get_or (map f first) i 0
  part_on i h = part_case i h (eqb_tells k i)

  pub rest_on : (i : ℕ) → k + 1 ≤ i → get_or (map f (set now k p')) i 0 ≡ get_or (map f first) i 0
  rest_on i h = other_at f 0 now k i p' (λ e. absurd (omega (arith, h, e))) ∙ left i (omega (arith, h))
