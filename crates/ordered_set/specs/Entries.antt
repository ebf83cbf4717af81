-- Ordered entries of numbers, and the next entry of a group.
use Rattle.std.specs.Prelude.{◌≡◌, ℕ, ◌<◌, ◌≤◌, ◌^◌, Bool, true, false, List, [], ◌∷◌, ◌++◌, length, slice_index}
use Rattle.std.specs.List.{list_any}
use Rattle.std.specs.Ordering.{nat_cmp, is_eq, is_gt}
use Rattle.std.specs.BTreeSet.{BTreeSet, contains}
use Rattle.std.specs.Cmp.Lexicographic.{slice_cmp}

-- the entry is in the list
abbrev pub has_entry : List (List ℕ) → List ℕ → Bool
has_entry es e = list_any (λ k. is_eq (slice_cmp nat_cmp e k)) es

-- the entry of a group at a place: the group's numbers, then the place
abbrev pub entry_at : List ℕ → ℕ → List ℕ
entry_at group place = group ++ place ∷ []

-- `place` is the first place of the group that is at least `from`
pub record IsNextIn (es : List (List ℕ)) (group : List ℕ) (from place : ℕ) : Type 0 where
  pub behind : from ≤ place
  pub there : has_entry es (entry_at group place) ≡ true
  pub first : (p : ℕ) → from ≤ p → p < place → has_entry es (entry_at group p) ≡ false

-- the group has no entry at a place from `from` on
abbrev pub IsLastIn : List (List ℕ) → List ℕ → ℕ → Type 0
IsLastIn es group from = (p : ℕ) → from ≤ p → p < 2 ^ 64 → has_entry es (entry_at group p) ≡ false

-- `place` is the first place of the entry's group, from the entry's own place on
abbrev pub IsNext : List (List ℕ) → List ℕ → ℕ → Type 0
IsNext es entry place = (group : List ℕ) (from : ℕ) → entry ≡ entry_at group from → IsNextIn es group from place

abbrev pub IsLast : List (List ℕ) → List ℕ → Type 0
IsLast es entry = (group : List ℕ) (from : ℕ) → entry ≡ entry_at group from → IsLastIn es group from

-- k lies between two entries, both included
abbrev pub IsBetween : List ℕ → List ℕ → List ℕ → Type 0
IsBetween from to k = (is_gt (slice_cmp nat_cmp from k) ≡ false) × (is_gt (slice_cmp nat_cmp k to) ≡ false)

-- `entry` is the first entry of the set that isn't before `from`
pub record IsFirstFrom (entries : BTreeSet (List ℕ)) (from entry : List ℕ) : Type 0 where
  pub behind : is_gt (slice_cmp nat_cmp from entry) ≡ false
  pub there : contains (slice_cmp nat_cmp) entries entry ≡ true
  pub first : (q : List ℕ) → is_gt (slice_cmp nat_cmp from q) ≡ false → contains (slice_cmp nat_cmp) entries q ≡ true → is_gt (slice_cmp nat_cmp entry q) ≡ false

abbrev pub IsNoneFrom : BTreeSet (List ℕ) → List ℕ → Type 0
IsNoneFrom entries from = (q : List ℕ) → is_gt (slice_cmp nat_cmp from q) ≡ false → contains (slice_cmp nat_cmp) entries q ≡ false

-- `place` is the last number of the first entry between `from` and `to`
pub record IsFirstIn (entries : BTreeSet (List ℕ)) (from to : List ℕ) (place : ℕ) : Type 0 where
  pub entry : List ℕ
  pub size : length entry ≡ 5
  pub inside : IsBetween from to entry
  pub there : contains (slice_cmp nat_cmp) entries entry ≡ true
  pub first : (q : List ℕ) → IsBetween from to q → contains (slice_cmp nat_cmp) entries q ≡ true → is_gt (slice_cmp nat_cmp entry q) ≡ false
  pub last : slice_index entry 4 ≡ place

abbrev pub IsNoneIn : BTreeSet (List ℕ) → List ℕ → List ℕ → Type 0
IsNoneIn entries from to = (q : List ℕ) → IsBetween from to q → contains (slice_cmp nat_cmp) entries q ≡ false
