-- Plays: the actions that answer a script, with any answers of the outside, and their result.
use Rattle.std.specs.Prelude.{◌≡◌, ℕ, Bool, true, false, List, [], ◌∷◌, ◌++◌, map, if◌then◌else◌}
use Rattle.net_model.specs.World.{Network, World}
use Rattle.net_model.specs.Action.{Action, Outcome, ForgedMatch, Ok, Recovers, Start, TakeBlock, Ask, Transmit, Deliver, Flip, Forge}
use Rattle.net_model.specs.Step.{step, IsStep}
use Rattle.run_types.specs.declared.item.Item.{Item}
use Rattle.run_types.specs.declared.item.NumberedItem.{NumberedItem}
use Rattle.run_model.specs.Script.{Script, Ends, Reports, Looks, Asks, GivesUp}

-- the action with the answer of an outside that did all that was asked
abbrev pub plain : Action → Action
plain (Start v recovery) = Start v (Recovers false)
plain (TakeBlock v link environment) = TakeBlock v link Ok
plain (Ask v event environment) = Ask v event Ok
plain (Transmit l j environment) = Transmit l j Ok
plain (Deliver l number environment) = Deliver l number Ok
plain (Flip l number bit environment) = Flip l number bit Ok
plain (Forge l octets environment) = Forge l octets Ok
plain action = action

-- How far a play got. Whole: to its end. CutShort: to the end of its actions; the run ended there, since memory ran out
-- or the sink failed. ForgedAt: to octets that nobody put on the wire and that have a right tag, at this line.
-- NoMemory: to a point where memory ran out, which ended the run.
pub data Ending : Type 0 where
  Whole : Ending
  CutShort : Ending
  ForgedAt : (number : ℕ) → Ending
  NoMemory : Ending

-- what was reported, each item with the number of its line; the world that was reached; and how the play ended
pub record Played : Type 0 where
  pub items : List NumberedItem
  pub world : World
  pub ending : Ending

abbrev pub numbered : ℕ → List Item → List NumberedItem
numbered number reported = map (λ item. record { number = number; item = item }) reported

abbrev pub is_forged : Outcome → Bool
is_forged ForgedMatch = true
is_forged _ = false

abbrev pub reporting : List NumberedItem → Played → Played
reporting reported p = record p { items = reported ++ p.items }

abbrev pub stopped_at : World → Ending → Played
stopped_at w ending = record { items = []; world = w; ending = ending }

-- the play of a script with the actions that answer it, for the line of this number; a forged match ends it
unfoldable pub play : Network → (number : ℕ) → World → Script → List Action → Played
play net number w Ends actions = stopped_at w Whole
play net number w (Reports reported next) actions = reporting (numbered number reported) (play net number w next actions)
play net number w (Looks next) actions = play net number w (next w) actions
play net number w (Asks action next) [] = stopped_at w CutShort
play net number w (Asks action next) (a ∷ rest) =
    let out = step net w a in
    if is_forged out.1 then stopped_at out.0 (ForgedAt number) else play net number out.0 (next out.1) rest
play net number w GivesUp actions = stopped_at w NoMemory

-- A if the test is true, and B otherwise
abbrev pub OneOf : Bool → Type 0 → Type 0 → Type 0
OneOf true A B = A
OneOf false A B = B

-- The actions answer the script in order. Each is the one that the script asks for, except for the outside's answer,
-- and may happen when it does. None is left over.
abbrev pub IsPlay : Network → World → Script → List Action → Type 0
IsPlay net w Ends actions = actions ≡ []
IsPlay net w (Reports reported next) actions = IsPlay net w next actions
IsPlay net w (Looks next) actions = IsPlay net w (next w) actions
IsPlay net w (Asks action next) [] = Unit {0}
IsPlay net w (Asks action next) (a ∷ rest) =
    let out = step net w a in
    (plain a ≡ action) × IsStep net w a × OneOf (is_forged out.1) (rest ≡ []) (IsPlay net out.0 (next out.1) rest)
IsPlay net w GivesUp actions = actions ≡ []
