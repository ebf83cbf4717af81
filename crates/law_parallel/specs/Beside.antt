-- What callers of a lane's machine keep of their calls, and the log in which this comes together.
use Rattle.std.specs.Prelude.{◌≡◌, ℕ, List, map}
use Rattle.net_model.specs.BlockOrder.{IsMerge}
use Rattle.law_parallel.specs.Logs.{Deed}
use Rattle.law_parallel.specs.Calls.{placed_from}

-- The part of a call that is its entry in the history, with the same place.
abbrev pub at_its_place : {P E : Type 0} → (P → E) → ℕ × P → ℕ × E
at_its_place entry call = (call.0, entry call.1)

-- What the callers kept forms one log in the order of the history. The deeds of that log are a merge of what each
-- caller did.
pub record HasLog {E P : Type 0} (entry : P → E) (deed : P → Deed) (kept : List (List (ℕ × P))) (history : List E) : Type 0 where
  pub log : List P
  pub entries : map entry log ≡ history
  pub deeds : IsMerge (map (map (at_its_place deed)) kept) (placed_from 0 (map deed log))
