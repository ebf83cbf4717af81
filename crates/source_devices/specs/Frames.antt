-- What a wire may answer. Its frames may be known (`Some`) or unknown (`None`).
use Rattle.std.specs.Prelude.{◌≡◌, ℕ, List, [], ◌∷◌, take, slice_get, slice_index_or, Option, Some, None, Result, MatchResult}
use Rattle.edge_io.specs.Writes.{Adds}

-- A success added this frame, a failure added none. Unknown frames stay unknown.
abbrev pub TakesFrame : {T E : Type 0} → Option (List (List ℕ)) → Option (List (List ℕ)) → Result T E → List ℕ → Type 0
TakesFrame None new r frame = new ≡ None
TakesFrame (Some frames) new r frame = MatchResult r (λ _. Adds (Some frames) new (frame ∷ [])) (λ _. Adds (Some frames) new [])

-- A success added the frame with this number once more, a failure added none. Unknown frames stay unknown.
abbrev pub TakesAgain : {T E : Type 0} → Option (List (List ℕ)) → Option (List (List ℕ)) → Result T E → ℕ → Type 0
TakesAgain None new r number = new ≡ None
TakesAgain (Some frames) new r number = TakesFrame (Some frames) new r (slice_index_or frames number [])

-- The frame with this number is the first n octets, if the frames are known.
abbrev pub IsFrame : Option (List (List ℕ)) → ℕ → ℕ → List ℕ → Type 0
IsFrame None number n octets = Unit {0}
IsFrame (Some frames) number n octets = slice_get frames number ≡ Some (take n octets)
