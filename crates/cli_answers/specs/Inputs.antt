-- The text that a source gave, and all the text that it had.
use Rattle.std.specs.Prelude.{◌≡◌, ◌⊎◌, ℕ, ◌<◌, List, length, Option, None, Some, ⊤}
use Rattle.std.specs.Io.KnownBytes.{Consumes, IsAtEnd}
use Rattle.scenario_text.specs.Text.{text_limit}

-- the source gave these bytes, to its end or past the limit of a scenario
abbrev pub ReadsWhole : Option (List ℕ) → Option (List ℕ) → List ℕ → Type 0
ReadsWhole old new bytes = Consumes old new bytes × (IsAtEnd new ⊎ (text_limit < length bytes))

-- the source was read to its end, or past the limit of a scenario
abbrev pub WasRead : Option (List ℕ) → Option (List ℕ) → Type 0
WasRead old new = (bytes : List ℕ) × ReadsWhole old new bytes

-- the source has this text, if it tells its text
abbrev pub IsInput : Option (List ℕ) → List ℕ → Type 0
IsInput None input = ⊤
IsInput (Some all) input = input ≡ all
