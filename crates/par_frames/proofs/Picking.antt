-- Merges in which all parts but one are empty, or have empty images.
use Rattle.std.proofs.Common.{◌≡◌, ℕ, zero, suc, ◌==◌, true, List, [], ◌∷◌, ◌++◌, length, map, refl, sym, ◌∙◌, ap, ap₂, subst, arith, Some}
use mathlib.Core.Logic.{⊎_elim}
use Rattle.std.specs.Prelude.{slice_get}
use Rattle.std.specs.List.{list_all, flat_map}
use Rattle.std.proofs.lemmas.Bool.{cases_eq}
use Rattle.std.proofs.lemmas.List.{append-nil}
use Rattle.net_model.specs.BlockOrder.{IsMerge, Done, Next}
use Rattle.law_base.proofs.Lists.{mapped_at}
use Rattle.shared_objects.proofs.Alls.{not_empty}
use Rattle.world_state.proofs.Passed.{get-map}
use Rattle.par_frames.proofs.Merges.{merge_made}

module _ {A : Type 0} where
  -- a list of lists in which one list is replaced
  else_where : (before after : List A) (p q : A) (n : ℕ) → (n ≡ length before → ⊥) → slice_get (before ++ p ∷ after) n ≡ slice_get (before ++ q ∷ after) n
  else_where [] after p q zero h = absurd (h refl)
  else_where [] after p q (suc n) h = refl
  else_where (b ∷ before) after p q zero h = refl
  else_where (b ∷ before) after p q (suc n) h = else_where before after p q n (λ e. h (ap suc e))

  in_middle : (before after : List A) (p : A) → slice_get (before ++ p ∷ after) (length before) ≡ Some p
  in_middle [] after p = refl
  in_middle (b ∷ before) after p = in_middle before after p

module _ {A : Type 0} where
  -- All lists but one are empty.
  abbrev AllEmptyBut : ℕ → List (List A) → Type 0
  AllEmptyBut k parts = (n : ℕ) (p : List A) → slice_get parts n ≡ Some p → (n ≡ k → ⊥) → p ≡ []

  same_some : {x y : List A} → ◌≡◌ {A = _} (Some x) (Some y) → x ≡ y
  same_some h = cc

  is_middle : (before after : List (List A)) (x : A) (rest : List A) (k : ℕ) → AllEmptyBut k (before ++ (x ∷ rest) ∷ after) → (length before ≡ k → ⊥) → ⊥
  is_middle before after x rest k others apart = never (others (length before) (x ∷ rest) (in_middle before after (x ∷ rest)) apart)
    where
      never : x ∷ rest ≡ [] → ⊥
      never h = let none = ap length h in omega (arith, none)

  none_there : (parts : List (List A)) (k : ℕ) (part : List A) → list_all (λ p. length p == 0) parts ≡ true → slice_get parts k ≡ Some part → part ≡ []
  none_there [] k part none at = cc
  none_there ([] ∷ parts) zero part none at = sym (same_some at)
  none_there ([] ∷ parts) (suc k) part none at = none_there parts k part none at
  none_there ((x ∷ xs) ∷ parts) k part none at = absurd (not_empty x xs (list_all (λ p. length p == 0) parts) none)

  -- If all other parts are empty, a merge is the one part.
  merge_one : (k : ℕ) (parts : List (List A)) (out part : List A) → IsMerge parts out → slice_get parts k ≡ Some part → AllEmptyBut k parts → out ≡ part
  merge_one k _ [] part (Done parts none) at others = sym (none_there parts k part none at)
  merge_one k _ _ part (Next before after x rest out m) at others = ⊎_elim
      (λ (e : length before ≡ k).
      let same : x ∷ rest ≡ part = same_some (sym (in_middle before after (x ∷ rest)) ∙ ap (slice_get (before ++ (x ∷ rest) ∷ after)) e ∙ at) in
      let later : out ≡ rest = merge_one k (before ++ rest ∷ after) out rest m (subst (λ (n : ℕ). slice_get (before ++ rest ∷ after) n ≡ Some rest) e (in_middle before after rest))
      (λ n p there apart. others n p (else_where before after (x ∷ rest) rest n (λ f. apart (f ∙ e)) ∙ there) apart) in
      ap (λ (xs : List A). x ∷ xs) later ∙ same)
      (λ (apart : length before ≡ k → ⊥). absurd (is_middle before after x rest k others apart))
      (cases_eq (length before) k)

module _ {A B : Type 0} (f : A → List B) where
  -- If all other elements have empty images, the images together are that of the one element.
  pub made_of_one : (xs : List A) (n : ℕ) (x : A) → slice_get xs n ≡ Some x → ((k : ℕ) (y : A) → slice_get xs k ≡ Some y → (k ≡ n → ⊥) → f y ≡ []) → flat_map f xs ≡ f x
  made_of_one [] n x at others = cc
  made_of_one (y ∷ xs) zero x at others =
      let same : y ≡ x = cc in
      let none = none_made xs (λ k z there. others (suc k) z there (λ e. let h = e in absurd (omega (arith, h)))) in
      ap₂ (λ (ys zs : List B). ys ++ zs) (ap f same) none ∙ append-nil (f x)
    where
      none_made : (ys : List A) → ((k : ℕ) (z : A) → slice_get ys k ≡ Some z → f z ≡ []) → flat_map f ys ≡ []
      none_made [] h = refl
      none_made (z ∷ ys) h = ap₂ (λ (us vs : List B). us ++ vs) (h zero z refl) (none_made ys (λ k v there. h (suc k) v there))
  made_of_one (y ∷ xs) (suc n) x at others =
      ap (λ (ys : List B). ys ++ flat_map f xs) (others zero y refl (λ e. let h = e in absurd (omega (arith, h))))
      ∙ made_of_one xs n x at (λ k z there apart. others (suc k) z there (λ e. apart (let h = e in omega (arith, h))))

  -- If only one part of a merge has images, the images of the merge are those of this part.
  pub made_of_part : (k : ℕ) (parts : List (List A)) (out part : List A) → IsMerge parts out → slice_get parts k ≡ Some part →
      ((n : ℕ) (p : List A) → slice_get parts n ≡ Some p → (n ≡ k → ⊥) → flat_map f p ≡ []) → flat_map f out ≡ flat_map f part
  made_of_part k parts out part m at others =
      merge_one k (map (flat_map f) parts) (flat_map f out) (flat_map f part) (merge_made f parts out m) (get-map (flat_map f) parts k part at)
      (λ n q there apart. let p = mapped_at (flat_map f) parts q n there in sym p.2 ∙ others n p.0 p.1 apart)
