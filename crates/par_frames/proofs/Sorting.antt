-- Frames in order: each new one is put after those that come before it.
use Rattle.std.proofs.Common.{◌≡◌, ℕ, Bool, true, false, ◌&&◌, ◌||◌, List, [], ◌∷◌, ◌++◌, map, refl, sym, ◌∙◌, ap, arith}
use Rattle.std.specs.Prelude.{◌==◌, nat_lt, nat_le, if◌then◌else◌}
use Rattle.std.proofs.lemmas.Bool.Decides.{nat_tests}
use Rattle.qkd_base.specs.declared.lane.Lane.{Lane}
use Rattle.run_model.specs.Block.{PutDone, is_before, put_in, sorted}
use Rattle.law_base.proofs.Base.{when_true, when_false}
use Rattle.par_frames.specs.declared.log.Refused.{Refused}
use Rattle.par_frames.specs.Adding.{is_first, put_behind}
use Rattle.par_frames.specs.FrameRecording.{put_as}

abbrev pub behind : PutDone → List PutDone → List PutDone
behind x [] = x ∷ []
behind x (y ∷ ys) = if is_before y x then y ∷ behind x ys else x ∷ y ∷ ys

-- the order of offsets and places

abbrev before : ℕ → ℕ → ℕ → ℕ → Bool
before a p b q = nat_lt a b || ((a == b) && nat_le p q)

before_all : (a p b q : ℕ) → before a p b q ≡ false → before b q a p ≡ true
before_all a p b q h = grind (arith, nat_tests)

before_both : (a p b q d r : ℕ) → before a p b q ≡ true → before b q d r ≡ true → before a p d r ≡ true
before_both a p b q d r h k = grind (arith, nat_tests)

total : (a b : PutDone) → is_before a b ≡ false → is_before b a ≡ true
total a b h = before_all a.offset a.place b.offset b.place h

both : (a b d : PutDone) → is_before a b ≡ true → is_before b d ≡ true → is_before a d ≡ true
both a b d h k = before_both a.offset a.place b.offset b.place d.offset d.place h k

not_so : (t : Bool) → t ≡ true → t ≡ false → ⊥
not_so t h k = cc

-- The order of adding doesn't matter: adding a and then x gives the same list as adding x and then a.
module _ (a x : PutDone) where
  front : (t : Bool) → is_before a x ≡ t → put_in a (behind x []) ≡ behind x (put_in a [])
  front true e = when_true (is_before a x) _ _ e ∙ sym (when_true (is_before a x) _ _ e)
  front false e = when_false (is_before a x) _ _ e ∙ sym (when_false (is_before a x) _ _ e)

  module _ (q : PutDone) (qs : List PutDone) (rest : put_in a (behind x qs) ≡ behind x (put_in a qs)) where
    left_true : is_before q x ≡ true → behind x (q ∷ qs) ≡ q ∷ behind x qs
    left_true e = when_true (is_before q x) (q ∷ behind x qs) (x ∷ q ∷ qs) e

    left_false : is_before q x ≡ false → behind x (q ∷ qs) ≡ x ∷ q ∷ qs
    left_false e = when_false (is_before q x) (q ∷ behind x qs) (x ∷ q ∷ qs) e

    in_true : (ys : List PutDone) → is_before a q ≡ true → put_in a (q ∷ ys) ≡ a ∷ q ∷ ys
    in_true ys e = when_true (is_before a q) (a ∷ q ∷ ys) (q ∷ put_in a ys) e

    in_false : (ys : List PutDone) → is_before a q ≡ false → put_in a (q ∷ ys) ≡ q ∷ put_in a ys
    in_false ys e = when_false (is_before a q) (a ∷ q ∷ ys) (q ∷ put_in a ys) e

    by : (s : Bool) → is_before a q ≡ s → (t : Bool) → is_before q x ≡ t → (u : Bool) → is_before a x ≡ u → put_in a (behind x (q ∷ qs)) ≡ behind x (put_in a (q ∷ qs))
    by true s true t u h =
        ap (put_in a) (left_true t) ∙ in_true (behind x qs) s
        ∙ sym (ap (behind x) (in_true qs s) ∙ when_true (is_before a x) (a ∷ behind x (q ∷ qs)) (x ∷ a ∷ q ∷ qs) (both a q x s t) ∙ ap (λ (zs : List PutDone). a ∷ zs) (left_true t))
    by true s false t true h =
        ap (put_in a) (left_false t) ∙ when_true (is_before a x) (a ∷ x ∷ q ∷ qs) (x ∷ put_in a (q ∷ qs)) h
        ∙ sym (ap (behind x) (in_true qs s) ∙ when_true (is_before a x) (a ∷ behind x (q ∷ qs)) (x ∷ a ∷ q ∷ qs) h ∙ ap (λ (zs : List PutDone). a ∷ zs) (left_false t))
    by true s false t false h =
        ap (put_in a) (left_false t) ∙ when_false (is_before a x) (a ∷ x ∷ q ∷ qs) (x ∷ put_in a (q ∷ qs)) h ∙ ap (λ (zs : List PutDone). x ∷ zs) (in_true qs s)
        ∙ sym (ap (behind x) (in_true qs s) ∙ when_false (is_before a x) (a ∷ behind x (q ∷ qs)) (x ∷ a ∷ q ∷ qs) h)
    by false s true t u h =
        ap (put_in a) (left_true t) ∙ in_false (behind x qs) s ∙ ap (λ (zs : List PutDone). q ∷ zs) rest
        ∙ sym (ap (behind x) (in_false qs s) ∙ when_true (is_before q x) (q ∷ behind x (put_in a qs)) (x ∷ q ∷ put_in a qs) t)
    by false s false t true h = absurd (not_so (is_before q x) (both q a x (total a q s) h) t)
    by false s false t false h =
        ap (put_in a) (left_false t) ∙ when_false (is_before a x) (a ∷ x ∷ q ∷ qs) (x ∷ put_in a (q ∷ qs)) h ∙ ap (λ (zs : List PutDone). x ∷ zs) (in_false qs s)
        ∙ sym (ap (behind x) (in_false qs s) ∙ when_false (is_before q x) (q ∷ behind x (put_in a qs)) (x ∷ q ∷ put_in a qs) t)

  pub swapped : (qs : List PutDone) → put_in a (behind x qs) ≡ behind x (put_in a qs)
  swapped [] = front (is_before a x) refl
  swapped (q ∷ qs) = by q qs (swapped qs) (is_before a q) refl (is_before q x) refl (is_before a x) refl

pub sorted_more : (xs : List PutDone) (x : PutDone) → sorted (xs ++ x ∷ []) ≡ behind x (sorted xs)
sorted_more [] x = refl
sorted_more (a ∷ xs) x = ap (put_in a) (sorted_more xs x) ∙ swapped a x (sorted xs)

-- the same for what is kept of the frames
pub kept_behind : (l : Lane) (x : Refused) (ys : List Refused) → map (put_as l false) (put_behind x ys) ≡ behind (put_as l false x) (map (put_as l false) ys)
kept_behind l x [] = refl
kept_behind l x (y ∷ ys) =
    elim (is_first y x) as (λ t. map (put_as l false) (if t then y ∷ put_behind x ys else x ∷ y ∷ ys) ≡
    (if t then put_as l false y ∷ behind (put_as l false x) (map (put_as l false) ys) else put_as l false x ∷ put_as l false y ∷ map (put_as l false) ys)) [
      | true ↦ ap (λ (zs : List PutDone). put_as l false y ∷ zs) (kept_behind l x ys)
      | false ↦ refl
    ]
