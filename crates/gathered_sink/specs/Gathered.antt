-- A sink that gathers what it takes, as a value.
use Rattle.std.specs.Prelude.{ℕ, List, Option}
use Rattle.std.specs.Io.KnownBytes.{append_known}

-- the writer, the bytes that were taken and not written yet, and how often a write failed
pub record Gathered (W : Type 0) : Type 0 where
  pub inner : W
  pub held : List ℕ
  pub faults : ℕ

-- what was taken: the bytes that the writer has, and then those that are held
abbrev pub taken_of : {W : Type 0} → (W → Option (List ℕ)) → Gathered W → Option (List ℕ)
taken_of contents s = append_known (contents s.inner) s.held
