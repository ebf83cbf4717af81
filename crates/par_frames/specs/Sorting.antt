-- The members of lists, and their order.
use Rattle.std.specs.Prelude.{◌≡◌, ℕ, ◌<◌, ◌≤◌, Bool, true, List, length, slice_get, slice_index_or, Some}
use Rattle.std.specs.List.Sorted.{IsSortedByKey}
use Rattle.std.specs.Ordering.{nat_cmp, ordering_then}
use Rattle.law_parallel.specs.Logs.{HaveTheSame}

abbrev pub IsIn : {A : Type 0} → List A → A → Type 0
IsIn xs x = (n : ℕ) × (slice_get xs n ≡ Some x)

-- Two lists have the same members, each as often.
pub record HasJust {A : Type 0} (xs ys : List A) : Type 0 where
  pub there : (n : ℕ) (x : A) → slice_get xs n ≡ Some x → IsIn ys x
  pub back : (n : ℕ) (y : A) → slice_get ys n ≡ Some y → IsIn xs y
  pub same : HaveTheSame xs ys

-- The elements of a list that pass a test have keys that don't fall.
abbrev pub IsOrderedWhere : {A : Type 0} → (A → Bool) → (A → ℕ) → List A → Type 0
IsOrderedWhere {A} p key xs = (i j : ℕ) (d : A) → i ≤ j → j < length xs → p (slice_index_or xs i d) ≡ true → p (slice_index_or xs j d) ≡ true →
    key (slice_index_or xs i d) ≤ key (slice_index_or xs j d)

-- A list is in order of one number and then of another, as a sort by both leaves it.
abbrev pub IsSortedByBoth : {A : Type 0} → (place key : A → ℕ) → List A → Type 0
IsSortedByBoth place key xs = IsSortedByKey (λ x. (place x, key x)) (λ (p q : ℕ × ℕ). ordering_then (nat_cmp p.0 q.0) (nat_cmp p.1 q.1)) xs
