-- The first item of a list that passes a test, searched from a place on.
use Rattle.std.specs.Prelude.{◌≡◌, ℕ, ◌<◌, ◌≤◌, Bool, true, false, List, slice_get, Some}

pub record IsFirstFrom {A : Type 0} (test : A → Bool) (xs : List A) (from place : ℕ) : Type 0 where
  pub behind : from ≤ place
  pub item : A
  pub there : slice_get xs place ≡ Some item
  pub passes : test item ≡ true
  pub before : (p : ℕ) (x : A) → from ≤ p → p < place → slice_get xs p ≡ Some x → test x ≡ false

-- No item from this place on passes the test.
pub record IsNoneFrom {A : Type 0} (test : A → Bool) (xs : List A) (from : ℕ) : Type 0 where
  pub none : (p : ℕ) (x : A) → from ≤ p → slice_get xs p ≡ Some x → test x ≡ false
