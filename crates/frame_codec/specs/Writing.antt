-- Writing octets into a buffer.
use Rattle.std.specs.Prelude.{◌≡◌, ℕ, ◌+◌, List, ◌++◌, length, take}

-- The octets now stand in the buffer from place `at` to `end`. The octets before them stayed.
pub record Puts (old new : List ℕ) (at end : ℕ) (octets : List ℕ) : Type 0 where
  pub end_is : end ≡ at + length octets
  pub prefix : take end new ≡ take at old ++ octets
