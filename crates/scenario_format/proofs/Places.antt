-- Places of elements in lists that grow at their ends.
use Rattle.std.proofs.Common.{◌≡◌, ◌∙◌, ℕ, zero, suc, ◌+◌, ◌<◌, Bool, true, false, List, [], ◌∷◌, ◌++◌, length, Option, Some, None, refl, sym, ap, arith, append-nil, append_assoc}
use Rattle.std.specs.Prelude.{if◌then◌else◌, slice_get, slice_set, is_none, unwrap_or}
use Rattle.std.specs.List.{position_from, flat_map}
use Rattle.std.specs.Str.{bytes_eq}
use Rattle.route_table.specs.Table.{Table}
use Rattle.scenario_text.specs.Words.{Word}
use Rattle.scenario_format.specs.Form.{place}
use Rattle.scenario_format.proofs.Given.{same_some}
use Rattle.scenario_format.proofs.Values.{found, same_bytes}

pub place_below : {X : Type 0} (xs : List X) (n : ℕ) (x : X) → slice_get xs n ≡ Some x → n < length xs
place_below [] n x e = absurd cc
place_below (y ∷ xs) zero x e = omega arith
place_below (y ∷ xs) (suc n) x e = let below = place_below xs n x e in omega (arith, below)

-- ---- an element that is found in a list has the same place in a longer one

found_step : (b : Bool) (i v : ℕ) (o p : Option ℕ) → (o ≡ Some v → p ≡ Some v) → (if b then Some i else o) ≡ Some v → (if b then Some i else p) ≡ Some v
found_step true i v o p more e = e
found_step false i v o p more e = more e

pub found_front : {X : Type 0} (t : X → Bool) (i : ℕ) (xs ys : List X) (v : ℕ) → position_from t i xs ≡ Some v → position_from t i (xs ++ ys) ≡ Some v
found_front t i [] ys v e = absurd cc
found_front t i (x ∷ xs) ys v e = found_step (t x) i v (position_from t (i + 1) xs) (position_from t (i + 1) (xs ++ ys)) (found_front t (i + 1) xs ys v) e

-- The element is found at place n, or not at all.
abbrev pub IsFoundLast : ℕ → Option ℕ → Type 0
IsFoundLast n None = Unit {0}
IsFoundLast n (Some v) = v ≡ n

last_step : (b : Bool) (i n : ℕ) (o p : Option ℕ) → (o ≡ None → IsFoundLast n p) → (if b then Some i else o) ≡ None → IsFoundLast n (if b then Some i else p)
last_step true i n o p more e = absurd cc
last_step false i n o p more e = more e

last_here : (b : Bool) (i : ℕ) → IsFoundLast (i + 0) (if b then Some i else None)
last_here true i = omega arith
last_here false i = tt

at_last : (n m : ℕ) (o : Option ℕ) → n ≡ m → IsFoundLast n o → IsFoundLast m o
at_last n m None e h = tt
at_last n m (Some v) e h = h ∙ e

pub found_last : {X : Type 0} (t : X → Bool) (i : ℕ) (xs : List X) (x : X) → position_from t i xs ≡ None → IsFoundLast (i + length xs) (position_from t i (xs ++ x ∷ []))
found_last t i [] x e = last_here (t x) i
found_last t i (y ∷ ys) x e =
    last_step (t y) i (i + length (y ∷ ys)) (position_from t (i + 1) ys) (position_from t (i + 1) (ys ++ x ∷ []))
    (λ none. at_last (i + 1 + length ys) (i + length (y ∷ ys)) (position_from t (i + 1) (ys ++ x ∷ [])) (omega arith) (found_last t (i + 1) ys x none)) e

-- ---- places of names

-- A name that is found in a list has the same place in a longer list.
pub named : (names later : List Word) (w : Word) (v : ℕ) → position_from (λ name. bytes_eq name w) 0 names ≡ Some v → (unwrap_or (slice_get (names ++ later) v) [] ≡ w) × (place (names ++ later) w ≡ v)
named names later w v e =
    let still = found_front (λ name. bytes_eq name w) 0 names later v e in
    let name = found (λ name. bytes_eq name w) (names ++ later) v still in
    (ap (λ (o : Option Word). unwrap_or o []) name.1 ∙ same_bytes name.0 w name.2, ap (λ (o : Option ℕ). unwrap_or o 0) still)

-- ---- the table of links

-- The table has no link.
abbrev pub IsEmpty : Table → Type 0
IsEmpty [] = Unit {0}
IsEmpty (None ∷ t) = IsEmpty t
IsEmpty (Some ends ∷ t) = ⊥

-- The links stand at the table's first numbers: no link stands behind a free number.
abbrev pub IsFilled : Table → Type 0
IsFilled [] = Unit {0}
IsFilled (None ∷ t) = IsEmpty t
IsFilled (Some ends ∷ t) = IsFilled t

empty_filled : (t : Table) → IsEmpty t → IsFilled t
empty_filled [] h = tt
empty_filled (None ∷ t) h = h
empty_filled (Some ends ∷ t) h = absurd h

-- A search that begins at place i finds nothing before i.
before_step : (b : Bool) (i v : ℕ) (o : Option ℕ) → (o ≡ Some v → v < i + 1 → ⊥) → (if b then Some i else o) ≡ Some v → v < i → ⊥
before_step true i v o later e lt = let here = same_some i v e in omega (arith, here, lt)
before_step false i v o later e lt = later e (omega (arith, lt))

never_before : (t : Table) (i v : ℕ) → position_from is_none i t ≡ Some v → v < i → ⊥
never_before [] i v e lt = absurd cc
never_before (o ∷ t) i v e lt = before_step (is_none o) i v (position_from is_none (i + 1) t) (never_before t (i + 1) v) e lt

pub filled_at : (t : Table) (i v k : ℕ) (p : ℕ × ℕ) → IsFilled t → position_from is_none i t ≡ Some v → v ≡ i + k → IsFilled (slice_set t k (Some p))
filled_at [] i v k p h e at = absurd cc
filled_at (None ∷ t) i v zero p h e at = empty_filled t h
filled_at (None ∷ t) i v (suc k) p h e at = let here = same_some i v e in absurd (omega (arith, here, at))
filled_at (Some ends ∷ t) i v zero p h e at = absurd (never_before t (i + 1) v e (omega (arith, at)))
filled_at (Some ends ∷ t) i v (suc k) p h e at = filled_at t (i + 1) v k p h e (omega (arith, at))

module _ {A : Type 0} (f : Option (ℕ × ℕ) → List A) (none : f None ≡ []) where
  empty_lines : (t : Table) → IsEmpty t → flat_map f t ≡ []
  empty_lines [] h = refl
  empty_lines (None ∷ t) h = ap (λ (xs : List A). xs ++ flat_map f t) none ∙ empty_lines t h
  empty_lines (Some ends ∷ t) h = absurd h

  pub lines_at : (t : Table) (i v k : ℕ) (p : ℕ × ℕ) → IsFilled t → position_from is_none i t ≡ Some v → v ≡ i + k → flat_map f (slice_set t k (Some p)) ≡ flat_map f t ++ f (Some p)
  lines_at [] i v k p h e at = absurd cc
  lines_at (None ∷ t) i v zero p h e at =
      ap (λ (xs : List A). f (Some p) ++ xs) (empty_lines t h) ∙ append-nil (f (Some p))
      ∙ sym (ap (λ (xs : List A). xs ++ f (Some p)) (ap (λ (xs : List A). xs ++ flat_map f t) none ∙ empty_lines t h))
  lines_at (None ∷ t) i v (suc k) p h e at = let here = same_some i v e in absurd (omega (arith, here, at))
  lines_at (Some ends ∷ t) i v zero p h e at = absurd (never_before t (i + 1) v e (omega (arith, at)))
  lines_at (Some ends ∷ t) i v (suc k) p h e at =
      ap (λ (xs : List A). f (Some ends) ++ xs) (lines_at t (i + 1) v k p h e (omega (arith, at))) ∙ sym (append_assoc (f (Some ends)) (flat_map f t) (f (Some p)))
