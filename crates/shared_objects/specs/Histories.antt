-- Histories of a machine of one of two kinds.
use Rattle.std.specs.Prelude.{◌≡◌, List, map}
use Rattle.turnstile.specs.Turns.{Leads}
use Rattle.shared_objects.specs.declared.either.Either.{Either}
use Rattle.shared_objects.specs.declared.either.Either.TheVariants.{Left, Right}

-- an entry of the left kind's history, as an entry of the common one

abbrev pub on_left : {Q R A B : Type 0} → Q × A → Either Q R × Either A B
on_left e = (Left e.0, Left e.1)

abbrev pub on_right : {Q R A B : Type 0} → R × B → Either Q R × Either A B
on_right e = (Right e.0, Right e.1)

-- The history is one of the left kind, and the machine at its end is on the left.

pub record StaysLeft {M N Q R A B : Type 0} (turn : M → Q → A → M → Type 0) (before : M) (log : List (Either Q R × Either A B)) (after : Either M N) : Type 0 where
  pub own : List (Q × A)
  pub left : M
  pub whole : log ≡ map on_left own
  pub leaves : after ≡ Left left
  pub leads : Leads turn before own left

pub record StaysRight {M N Q R A B : Type 0} (turn : N → R → B → N → Type 0) (before : N) (log : List (Either Q R × Either A B)) (after : Either M N) : Type 0 where
  pub own : List (R × B)
  pub left : N
  pub whole : log ≡ map on_right own
  pub leaves : after ≡ Right left
  pub leads : Leads turn before own left
