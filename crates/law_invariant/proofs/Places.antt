-- Lists of different places (a lane and an offset): adding one, and leaving some out.
use Rattle.std.proofs.Common.{◌≡◌, ℕ, zero, suc, Bool, true, false, ◌&&◌, List, [], ◌∷◌, ◌++◌, refl, sym, ◌∙◌, ap, subst, Option, Some, None}
use Rattle.std.specs.Prelude.{◌==◌, slice_get, map, filter, filter_map, if◌then◌else◌}
use Rattle.std.specs.List.{cons_option}
use Rattle.std.proofs.lemmas.List.Folds.{list_any-append}
use Rattle.qkd_base.specs.Lane.{lane_eq}
use Rattle.qkd_base.specs.declared.lane.Lane.{Lane}
use Rattle.net_model.specs.Windows.{has_place, PlacesDiffer}
use Rattle.law_base.proofs.Base.{eq_from, eq_same, lane_eq_from, and_left, and_right, and_both, or_left, or_right, or_first, or_second, or_both, not_false, not_both, lane_same}

abbrev Place : Type 0
Place = Lane × ℕ

abbrev is_at : Place → Place → Bool
is_at p q = lane_eq p.0 q.0 && (p.1 == q.1)

place_from : (p q : Place) → is_at p q ≡ true → p ≡ q
place_from p q h =
    let lane = lane_eq_from p.0 q.0 (and_left (lane_eq p.0 q.0) (p.1 == q.1) h) in
    let offset = eq_from p.1 q.1 (and_right (lane_eq p.0 q.0) (p.1 == q.1) h) in
    λ i. (lane i, offset i)

place_same : (p : Place) → is_at p p ≡ true
place_same p = and_both (lane_eq p.0 p.0) (p.1 == p.1) (lane_same p.0) (eq_same p.1)

place_other : (p q : Place) → is_at p q ≡ false → is_at q p ≡ false
place_other p q h = not_false (is_at q p) (λ e. not_both (is_at p q) (subst (λ (x : Place). is_at p x ≡ true) (sym (place_from q p e)) (place_same p)) h)

pub has_both : (ps qs : List Place) (q : Place) → has_place ps q ≡ false → has_place qs q ≡ false → has_place (ps ++ qs) q ≡ false
has_both ps qs q h k = list_any-append (λ p. is_at p q) ps qs ∙ or_both (has_place ps q) (has_place qs q) h k

has_prefix : (ps qs : List Place) (q : Place) → has_place (ps ++ qs) q ≡ false → has_place ps q ≡ false
has_prefix ps qs q h = or_first (has_place ps q) (has_place qs q) (sym (list_any-append (λ p. is_at p q) ps qs) ∙ h)

has_after : (ps qs : List Place) (q : Place) → has_place (ps ++ qs) q ≡ false → has_place qs q ≡ false
has_after ps qs q h = or_second (has_place ps q) (has_place qs q) (sym (list_any-append (λ p. is_at p q) ps qs) ∙ h)

-- The places in the second part of such a list are different.
pub differ_after : (ps qs : List Place) → PlacesDiffer (ps ++ qs) → PlacesDiffer qs
differ_after [] qs d = d
differ_after (p ∷ ps) qs d = differ_after ps qs d.1

-- One more place is inserted between the two parts.
pub differ_between : (ps qs : List Place) (q : Place) → PlacesDiffer (ps ++ qs) → has_place (ps ++ qs) q ≡ false → PlacesDiffer (ps ++ q ∷ qs)
differ_between [] qs q d h = (h, d)
differ_between (p ∷ ps) qs q d h = (
  has_both ps (q ∷ qs) p (has_prefix ps qs p d.0)
      (or_both (is_at q p) (has_place qs p) (place_other p q (or_first (is_at p q) (has_place (ps ++ qs) q) h)) (has_after ps qs p d.0)),
  differ_between ps qs q d.1 (or_second (is_at p q) (has_place (ps ++ qs) q) h),
)

-- One more place is appended.
pub differ_last : (ps : List Place) (q : Place) → PlacesDiffer ps → has_place ps q ≡ false → PlacesDiffer (ps ++ q ∷ [])
differ_last [] q d h = (refl, tt)
differ_last (p ∷ ps) q d h = (
  has_both ps (q ∷ []) p d.0 (or_both (is_at q p) false (place_other p q (or_first (is_at p q) (has_place ps q) h)) refl),
  differ_last ps q d.1 (or_second (is_at p q) (has_place ps q) h),
)

-- Places are removed from the second part.
pub differ_fewer : (ps qs rs : List Place) → ((q : Place) → has_place qs q ≡ false → has_place rs q ≡ false) → PlacesDiffer rs → PlacesDiffer (ps ++ qs) → PlacesDiffer (ps ++ rs)
differ_fewer [] qs rs h k d = k
differ_fewer (p ∷ ps) qs rs h k d = (has_both ps rs p (has_prefix ps qs p d.0) (h p (has_after ps qs p d.0)), differ_fewer ps qs rs h k d.1)

module _ {A : Type 0} (f : A → Place) (keep : A → Bool) where
  has_kept : (xs : List A) (q : Place) → has_place (map f xs) q ≡ false → has_place (map f (filter keep xs)) q ≡ false
  has_kept [] q h = h
  has_kept (x ∷ xs) q h =
      let rest = has_kept xs q (or_second (is_at (f x) q) (has_place (map f xs) q) h) in
      elim (keep x) as (λ t. has_place (map f (if t then x ∷ filter keep xs else filter keep xs)) q ≡ false) [
        | true ↦ or_both (is_at (f x) q) (has_place (map f (filter keep xs)) q) (or_first (is_at (f x) q) (has_place (map f xs) q) h) rest
        | false ↦ rest
      ]

  -- Places are removed from the first part.
  pub differ_kept : (xs : List A) (qs : List Place) → PlacesDiffer (map f xs ++ qs) → PlacesDiffer (map f (filter keep xs) ++ qs)
  differ_kept [] qs d = d
  differ_kept (x ∷ xs) qs d =
      let rest = differ_kept xs qs d.1 in
      elim (keep x) as (λ t. PlacesDiffer (map f (if t then x ∷ filter keep xs else filter keep xs) ++ qs)) [
        | true ↦ (has_both (map f (filter keep xs)) qs (f x) (has_kept xs (f x) (has_prefix (map f xs) qs (f x) d.0)) (has_after (map f xs) qs (f x) d.0), rest)
        | false ↦ rest
      ]

module _ {A : Type 0} (f : A → Option Place) (keep : A → Bool) where
  pub has_some : (xs : List A) (q : Place) → has_place (filter_map f xs) q ≡ false → has_place (filter_map f (filter keep xs)) q ≡ false
  has_some [] q h = h
  has_some (x ∷ xs) q h =
      elim (keep x) as (λ t. has_place (filter_map f (if t then x ∷ filter keep xs else filter keep xs)) q ≡ false) [
        | true ↦ elim (f x) as (λ o. has_place (cons_option o (filter_map f xs)) q ≡ false → has_place (cons_option o (filter_map f (filter keep xs))) q ≡ false) [
          | None ↦ λ g. has_some xs q g
          | Some p ↦ λ g. or_both (is_at p q) (has_place (filter_map f (filter keep xs)) q) (or_first (is_at p q) (has_place (filter_map f xs) q) g)
              (has_some xs q (or_second (is_at p q) (has_place (filter_map f xs) q) g))
        ] h
        | false ↦ elim (f x) as (λ o. has_place (cons_option o (filter_map f xs)) q ≡ false → has_place (filter_map f (filter keep xs)) q ≡ false) [
          | None ↦ λ g. has_some xs q g
          | Some p ↦ λ g. has_some xs q (or_second (is_at p q) (has_place (filter_map f xs) q) g)
        ] h
      ]

  pub differ_some : (xs : List A) → PlacesDiffer (filter_map f xs) → PlacesDiffer (filter_map f (filter keep xs))
  differ_some [] d = d
  differ_some (x ∷ xs) d =
      elim (keep x) as (λ t. PlacesDiffer (filter_map f (if t then x ∷ filter keep xs else filter keep xs))) [
        | true ↦ elim (f x) as (λ o. PlacesDiffer (cons_option o (filter_map f xs)) → PlacesDiffer (cons_option o (filter_map f (filter keep xs)))) [
          | None ↦ λ g. differ_some xs g
          | Some p ↦ λ g. (has_some xs p g.0, differ_some xs g.1)
        ] d
        | false ↦ elim (f x) as (λ o. PlacesDiffer (cons_option o (filter_map f xs)) → PlacesDiffer (filter_map f (filter keep xs))) [
          | None ↦ λ g. differ_some xs g
          | Some p ↦ λ g. differ_some xs g.1
        ] d
      ]

module _ {A : Type 0} (f : A → Place) where
  there : (xs : List A) (qs : List Place) (i : ℕ) (a : A) → slice_get xs i ≡ Some a → has_place (map f xs ++ qs) (f a) ≡ true
  there [] qs i a h = cc
  there (x ∷ xs) qs zero a h =
      let is : a ≡ x = cc in or_left (is_at (f x) (f a)) (has_place (map f xs ++ qs) (f a)) (subst (λ (y : A). is_at (f x) (f y) ≡ true) (sym is) (place_same (f x)))
  there (x ∷ xs) qs (suc i) a h = or_right (is_at (f x) (f a)) (has_place (map f xs ++ qs) (f a)) (there xs qs i a h)

  not_there : (xs : List A) (qs : List Place) (i : ℕ) (a : A) (q : Place) → slice_get xs i ≡ Some a → q ≡ f a → has_place (map f xs ++ qs) q ≡ false → ⊥
  not_there xs qs i a q h e k = not_both (has_place (map f xs ++ qs) q) (ap (has_place (map f xs ++ qs)) e ∙ there xs qs i a h) k

  -- Of items with different places, at most one has a given place.
  pub one_place : (xs : List A) (qs : List Place) (i j : ℕ) (a b : A) → PlacesDiffer (map f xs ++ qs) → slice_get xs i ≡ Some a → slice_get xs j ≡ Some b → f a ≡ f b → a ≡ b
  one_place [] qs i j a b d h k e = cc
  one_place (x ∷ xs) qs zero zero a b d h k e = cc
  one_place (x ∷ xs) qs zero (suc j) a b d h k e = let is : x ≡ a = cc in absurd (not_there xs qs j b (f x) k (ap f is ∙ e) d.0)
  one_place (x ∷ xs) qs (suc i) zero a b d h k e = let is : x ≡ b = cc in absurd (not_there xs qs i a (f x) h (ap f is ∙ sym e) d.0)
  one_place (x ∷ xs) qs (suc i) (suc j) a b d h k e = one_place xs qs i j a b d.1 h k e

  -- A place of the first part isn't in the second.
  pub apart : (xs : List A) (qs : List Place) (i : ℕ) (a : A) → PlacesDiffer (map f xs ++ qs) → slice_get xs i ≡ Some a → has_place qs (f a) ≡ false
  apart [] qs i a d h = cc
  apart (x ∷ xs) qs zero a d h = let is : x ≡ a = cc in subst (λ (y : A). has_place qs (f y) ≡ false) is (has_after (map f xs) qs (f x) d.0)
  apart (x ∷ xs) qs (suc i) a d h = apart xs qs i a d.1 h
