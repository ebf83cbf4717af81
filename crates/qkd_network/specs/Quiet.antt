-- A run of whose report only the lines are written that a person asked for.
use Rattle.std.specs.Prelude.{◌≡◌, ℕ, List, Option, Some, Result}
use Rattle.std.specs.List.{All}
use Rattle.run_model.specs.Headline as headline
use Rattle.run_model.specs.Headline.{Given, joined}
use Rattle.run_lines.specs.Reporting.{IsItemLine}
use Rattle.run_lines.specs.declared.stop.Stop.{Stop}
use Rattle.asked_lines.specs.Telling.{ToldAsked}
use Rattle.net_world.specs.Running.{ended}

-- a sink was given these lines, one piece each
abbrev pub given_lines : List (List ℕ) → Given
given_lines lines = record { octets = Some (joined lines); pieces = Some lines }

-- These are the lines of the report of a run, in order, and `Ran` holds of the whole report and of how the run ended. The sink took those of the lines that a
-- person asked for.
pub record IsQuiet {W : Type 0} (taken : W → Option (List ℕ)) (pieces : W → Option (List (List ℕ))) (Ran : (report : Given) → headline.Stop → Type 0)
    (nodes : List (List ℕ)) (before after : W) (stop : headline.Stop) : Type 0 where
  pub lines : List (List ℕ)
  pub each : All (IsItemLine nodes) lines
  pub run : Result (Unit {0}) Stop
  pub ran : Ran (given_lines lines) (ended run)
  pub call : Result (Unit {0}) Stop
  pub ends : stop ≡ ended call
  pub told : ToldAsked taken pieces nodes lines before after run call
