-- Machines of one of two kinds in a list, and what a call tells of one of them.
use Rattle.std.specs.Prelude.{◌≡◌, ℕ, List, Some, slice_get}
use Rattle.turnstile.specs.Turns.{Leads}
use Rattle.shared_objects.specs.declared.either.Either.{Either}
use Rattle.shared_objects.specs.declared.either.Either.TheVariants.{Left, Right}

-- the machine at index i is on the left

abbrev pub IsLeft : {M N : Type 0} → List (Either M N) → ℕ → M → Type 0
IsLeft machines i m = slice_get machines i ≡ Some (Left m)

abbrev pub IsRight : {M N : Type 0} → List (Either M N) → ℕ → N → Type 0
IsRight machines i m = slice_get machines i ≡ Some (Right m)

-- A machine took a turn on a request at the end of some legal history.
pub record HasTurned {M Q A : Type 0} (turn : M → Q → A → M → Type 0) (opening : M) (request : Q) (reply : A) : Type 0 where
  pub earlier : List (Q × A)
  pub before : M
  pub after : M
  pub leads : Leads turn opening earlier before
  pub turned : turn before request reply after
