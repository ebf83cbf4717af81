-- Places in a list that grows at its end, and the first item that passes a test.
use Rattle.std.proofs.Common.{◌≡◌, ◌∙◌, ◌⊎◌, inl, inr, ℕ, zero, suc, ◌+◌, ◌<◌, Bool, true, false, List, [], ◌∷◌, ◌++◌, length, get_or, Option, Some, None, refl, ap, arith}
use Rattle.std.specs.Prelude.{if◌then◌else◌, slice_get, is_none, is_some}
use Rattle.std.specs.List.{position_from}
use Rattle.law_run.proofs.FitGiven.{same_some}

pub at_push : {A : Type 0} (xs : List A) (x : A) (n : ℕ) (y : A) → slice_get (xs ++ x ∷ []) n ≡ Some y → (slice_get xs n ≡ Some y) ⊎ ((n ≡ length xs) × (x ≡ y))
at_push [] x zero y e = inr (refl, same_some x y e)
at_push [] x (suc n) y e = absurd cc
at_push (z ∷ xs) x zero y e = inl e
at_push (z ∷ xs) x (suc n) y e = elim (at_push xs x n y e) [ inl before ↦ inl before | inr last ↦ inr (ap suc last.0, last.1) ]

pub get_front : {A : Type 0} (xs ys : List A) (n : ℕ) → n < length xs → slice_get (xs ++ ys) n ≡ slice_get xs n
get_front [] ys n below = absurd (omega (arith, below))
get_front (x ∷ xs) ys zero below = refl
get_front (x ∷ xs) ys (suc n) below = get_front xs ys n (omega (arith, below))

none_parts : (b : Bool) (i : ℕ) (o : Option ℕ) → (if b then Some i else o) ≡ None → (b ≡ false) × (o ≡ None)
none_parts true i o e = absurd cc
none_parts false i o e = (refl, e)

first_taken : (b : Bool) (i : ℕ) (o : Option ℕ) → b ≡ true → (if b then Some i else o) ≡ Some i
first_taken true i o e = refl
first_taken false i o e = absurd cc

next_taken : (b : Bool) (i : ℕ) (o : Option ℕ) → b ≡ false → (if b then Some i else o) ≡ o
next_taken true i o e = absurd cc
next_taken false i o e = refl

-- If the search finds nothing, no item passes the test.
pub unfound : {X : Type 0} (t : X → Bool) (i : ℕ) (xs : List X) → position_from t i xs ≡ None → (n : ℕ) (x : X) → slice_get xs n ≡ Some x → t x ≡ false
unfound t i [] e n x is = absurd cc
unfound t i (y ∷ ys) e zero x is = ap t (same_some x y (cc)) ∙ (none_parts (t y) i (position_from t (i + 1) ys) e).0
unfound t i (y ∷ ys) e (suc n) x is = unfound t (i + 1) ys (none_parts (t y) i (position_from t (i + 1) ys) e).1 n x is

front_step : (b : Bool) (i v : ℕ) (o p : Option ℕ) → (o ≡ Some v → p ≡ Some v) → (if b then Some i else o) ≡ Some v → (if b then Some i else p) ≡ Some v
front_step true i v o p more e = e
front_step false i v o p more e = more e

-- What was found in a list is found at the same place when the list grows.
pub found_front : {X : Type 0} (t : X → Bool) (i : ℕ) (xs ys : List X) (v : ℕ) → position_from t i xs ≡ Some v → position_from t i (xs ++ ys) ≡ Some v
found_front t i [] ys v e = absurd cc
found_front t i (x ∷ xs) ys v e = front_step (t x) i v (position_from t (i + 1) xs) (position_from t (i + 1) (xs ++ ys)) (found_front t (i + 1) xs ys v) e

pub found_last : {X : Type 0} (t : X → Bool) (i : ℕ) (xs : List X) (x : X) → position_from t i xs ≡ None → t x ≡ true → position_from t i (xs ++ x ∷ []) ≡ Some (i + length xs)
found_last t i [] x e passes = first_taken (t x) i None passes ∙ ap Some (omega arith)
found_last t i (y ∷ ys) x e passes =
    let parts = none_parts (t y) i (position_from t (i + 1) ys) e in
    next_taken (t y) i (position_from t (i + 1) (ys ++ x ∷ [])) parts.0 ∙ found_last t (i + 1) ys x parts.1 passes ∙ ap Some (omega arith)

-- The first free place of the table.
pub record IsFree {A : Type 0} (t : List (Option A)) (i v : ℕ) : Type 0 where
  pub place : ℕ
  pub is : v ≡ i + place
  pub within : place < length t
  pub free : get_or t place None ≡ None
  pub before : (j : ℕ) → j < place → is_some (get_or t j None) ≡ true

pub free_at : {A : Type 0} (t : List (Option A)) (i v : ℕ) → position_from is_none i t ≡ Some v → IsFree t i v
free_at [] i v e = absurd cc
free_at (None ∷ t) i v e =
    let here = same_some i v e in
    record { place = 0; is = omega (arith, here); within = omega arith; free = refl; before = λ j below. absurd (omega (arith, below)) }
free_at (Some a ∷ t) i v e =
    let rest = free_at t (i + 1) v e in
    let is = rest.is in
    let within = rest.within in
    record {
      place = suc rest.place;
      is = omega (arith, is);
      within = omega (arith, within);
      free = rest.free;
      before = before_more a t rest.place rest.before;
    }
  where
    before_more : {A : Type 0} (a : A) (t : List (Option A)) (place : ℕ) → ((j : ℕ) → j < place → is_some (get_or t j None) ≡ true) → (j : ℕ) → j < suc place → is_some (get_or (Some a ∷ t) j None) ≡ true
    before_more a t place before zero below = refl
    before_more a t place before (suc j) below = before j (omega (arith, below))
