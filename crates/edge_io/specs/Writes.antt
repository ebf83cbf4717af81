-- How a write changes the bytes and the pieces that a sink took, where contracts know them.
use Rattle.std.specs.Prelude.{◌≡◌, ℕ, List, [], ◌∷◌, ◌++◌, take, drop, Option, Some, None, Result, MatchResult, Bool}
use Rattle.std.specs.Bool.{MatchBool}
use Rattle.std.specs.Io.KnownBytes.{Appends}

-- a prefix of bs is appended to the known bytes
abbrev pub AppendsPrefix : Option (List ℕ) → Option (List ℕ) → List ℕ → Type 0
AppendsPrefix old new bs = (n : ℕ) × Appends old new (take n bs)

-- all of bs was taken, or after a failure only a prefix of it
abbrev pub WritesAll : {T E : Type 0} → Option (List ℕ) → Option (List ℕ) → Result T E → List ℕ → Type 0
WritesAll old new r bs = MatchResult r (λ _. Appends old new bs) (λ _. AppendsPrefix old new bs)

-- if the answer is true, all of bs was taken, and otherwise a prefix of it
abbrev pub WritesUpTo : Option (List ℕ) → Option (List ℕ) → Bool → List ℕ → Type 0
WritesUpTo old new all bs = MatchBool all (Appends old new bs) (AppendsPrefix old new bs)

-- these items are appended to a known list, which stays known
abbrev pub Adds : {A : Type 0} → Option (List A) → Option (List A) → List A → Type 0
Adds None new more = Unit {0}
Adds (Some xs) new more = new ≡ Some (xs ++ more)

-- one piece is appended to the known pieces, or after a failure none
abbrev pub TakesPiece : {T E : Type 0} → Option (List (List ℕ)) → Option (List (List ℕ)) → Result T E → List ℕ → Type 0
TakesPiece old new r bs = MatchResult r (λ _. Adds old new (bs ∷ [])) (λ _. Adds old new [])

-- contracts know nothing of what was taken
abbrev pub IsUntold : Option (List ℕ) → Option (List (List ℕ)) → Type 0
IsUntold taken pieces = (taken ≡ None) × (pieces ≡ None)

-- a list cut into consecutive pieces of these lengths
abbrev pub cut : List ℕ → List ℕ → List (List ℕ)
cut [] bs = []
cut (n ∷ ns) bs = take n bs ∷ cut ns (drop n bs)
