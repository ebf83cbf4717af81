-- Different places have, on each lane, at most as many offsets as any list that has all of them.
use Rattle.std.proofs.Common.{◌≡◌, ℕ, ◌≤◌, Bool, true, false, cond, ◌&&◌, List, [], ◌∷◌, ◌++◌, length, refl, sym, ap, subst, inl, inr}
use Rattle.std.specs.Prelude.{◌==◌, if◌then◌else◌}
use Rattle.std.specs.List.{IsDistinct, AllByRecursion}
use Rattle.std.specs.Set.{distinct_count, unique_keys, is_member}
use Rattle.std.proofs.lemmas.Cmp.{nat_eq_equiv}
use Rattle.std.proofs.lemmas.Map.Made.{length-le_from_is_member}
use Rattle.qkd_base.specs.Lane.{lane_eq}
use Rattle.qkd_base.specs.declared.lane.Lane.{Lane}
use Rattle.net_model.specs.Windows.{has_place, PlacesDiffer}
use Rattle.law_base.proofs.Base.{eq_from, eq_same, lane_eq_from, and_both, or_cases, or_left, or_right, or_first, or_second, not_false, not_both}

abbrev pub same : ℕ → ℕ → Bool
same a b = a == b

pub other_number : (x y : ℕ) → (y == x) ≡ false → (x == y) ≡ false
other_number x y h = not_false (x == y) (λ is. not_both (y == x) (subst (λ (z : ℕ). (z == x) ≡ true) (eq_from x y is) (eq_same x)) h)

-- Removing duplicates from a list removes no element entirely.
in_unique : (xs : List ℕ) (q : ℕ) → is_member same xs q ≡ true → is_member same (unique_keys same xs) q ≡ true
in_unique [] q h = h
in_unique (x ∷ xs) q h =
    elim (is_member same xs x) as (λ t. is_member same xs x ≡ t → is_member same (cond t (unique_keys same xs) (x ∷ unique_keys same xs)) q ≡ true) [
      | true ↦ λ e. elim (or_cases (q == x) (is_member same xs q) h) [
        | inl is ↦ in_unique xs q (subst (λ (y : ℕ). is_member same xs y ≡ true) (sym (eq_from q x is)) e)
        | inr rest ↦ in_unique xs q rest
      ]
      | false ↦ λ e. elim (or_cases (q == x) (is_member same xs q) h) [
        | inl is ↦ or_left (q == x) (is_member same (unique_keys same xs) q) is
        | inr rest ↦ or_right (q == x) (is_member same (unique_keys same xs) q) (in_unique xs q rest)
      ]
    ] refl

-- The offsets of the places on a lane.
abbrev pub offsets_on : Lane → List (Lane × ℕ) → List ℕ
offsets_on k [] = []
offsets_on k (p ∷ ps) = if lane_eq p.0 k then p.1 ∷ offsets_on k ps else offsets_on k ps

pub offsets_of_both : (k : Lane) (ps qs : List (Lane × ℕ)) → offsets_on k (ps ++ qs) ≡ offsets_on k ps ++ offsets_on k qs
offsets_of_both k [] qs = refl
offsets_of_both k (p ∷ ps) qs =
    elim (lane_eq p.0 k) as (λ t. (if t then p.1 ∷ offsets_on k (ps ++ qs) else offsets_on k (ps ++ qs)) ≡ (if t then p.1 ∷ offsets_on k ps else offsets_on k ps) ++ offsets_on k qs) [
      | true ↦ ap (λ (xs : List ℕ). p.1 ∷ xs) (offsets_of_both k ps qs)
      | false ↦ offsets_of_both k ps qs
    ]

-- If no place has this lane and offset, the offset isn't among those of the lane.
none_at : (k : Lane) (x : ℕ) (ps : List (Lane × ℕ)) → has_place ps (k, x) ≡ false → AllByRecursion (λ (y : ℕ). same x y ≡ false) (offsets_on k ps)
none_at k x [] h = tt
none_at k x (p ∷ ps) h =
    let here = or_first (lane_eq p.0 k && (p.1 == x)) (has_place ps (k, x)) h in
    let rest = none_at k x ps (or_second (lane_eq p.0 k && (p.1 == x)) (has_place ps (k, x)) h) in
    elim (lane_eq p.0 k) as (λ t. lane_eq p.0 k ≡ t → AllByRecursion (λ (y : ℕ). same x y ≡ false) (if t then p.1 ∷ offsets_on k ps else offsets_on k ps)) [
      | true ↦ λ e. (
        not_false (x == p.1) (λ is. not_both (lane_eq p.0 k && (p.1 == x))
            (and_both (lane_eq p.0 k) (p.1 == x) e (subst (λ (y : ℕ). (p.1 == y) ≡ true) (sym (eq_from x p.1 is)) (eq_same p.1))) here),
        rest,
      )
      | false ↦ λ e. rest
    ] refl

distinct : (k : Lane) (ps : List (Lane × ℕ)) → PlacesDiffer ps → IsDistinct same (offsets_on k ps)
unfolding IsDistinct
distinct k [] d = tt
distinct k (p ∷ ps) d =
    elim (lane_eq p.0 k) as (λ t. lane_eq p.0 k ≡ t → IsDistinct same (if t then p.1 ∷ offsets_on k ps else offsets_on k ps)) [
      | true ↦ λ e. let at : p.0 ≡ k = lane_eq_from p.0 k e in
          (none_at k p.1 ps (subst (λ (y : Lane). has_place ps (y, p.1) ≡ false) at d.0), distinct k ps d.1)
      | false ↦ λ e. distinct k ps d.1
    ] refl

-- An offset among those of the lane belongs to a place.
has_at : (k : Lane) (ps : List (Lane × ℕ)) (x : ℕ) → is_member same (offsets_on k ps) x ≡ true → has_place ps (k, x) ≡ true
has_at k [] x h = h
has_at k (p ∷ ps) x h =
    elim (lane_eq p.0 k) as (λ t. lane_eq p.0 k ≡ t → is_member same (if t then p.1 ∷ offsets_on k ps else offsets_on k ps) x ≡ true → has_place (p ∷ ps) (k, x) ≡ true) [
      | true ↦ λ e g. elim (or_cases (x == p.1) (is_member same (offsets_on k ps) x) g) [
        | inl is ↦ or_left (lane_eq p.0 k && (p.1 == x)) (has_place ps (k, x))
            (and_both (lane_eq p.0 k) (p.1 == x) e (subst (λ (y : ℕ). (p.1 == y) ≡ true) (sym (eq_from x p.1 is)) (eq_same p.1)))
        | inr rest ↦ or_right (lane_eq p.0 k && (p.1 == x)) (has_place ps (k, x)) (has_at k ps x rest)
      ]
      | false ↦ λ e g. or_right (lane_eq p.0 k && (p.1 == x)) (has_place ps (k, x)) (has_at k ps x g)
    ] refl h

pub at_most : (k : Lane) (ps : List (Lane × ℕ)) (heard : List ℕ) → PlacesDiffer ps → ((x : ℕ) → is_member same heard x ≡ false → has_place ps (k, x) ≡ false) →
    length (offsets_on k ps) ≤ distinct_count same heard
at_most k ps heard d each =
    length-le_from_is_member nat_eq_equiv (offsets_on k ps) (unique_keys same heard) (distinct k ps d) (λ x h. in_unique heard x (was_heard x h))
  where
    was_heard : (x : ℕ) → is_member same (offsets_on k ps) x ≡ true → is_member same heard x ≡ true
    was_heard x h = elim (is_member same heard x) as (λ t. is_member same heard x ≡ t → t ≡ true) [
      | true ↦ λ e. refl
      | false ↦ λ e. absurd (not_both (has_place ps (k, x)) (has_at k ps x h) (each x e))
    ] refl
