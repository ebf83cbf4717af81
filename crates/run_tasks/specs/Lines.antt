-- The outcome of a line of a load.
use Rattle.std.specs.Prelude.{◌&&◌, not, ℕ, Bool, List, Result, MatchResult}
use Rattle.net_model.specs.Site.{Site}
use Rattle.net_model.specs.World.{Network, World}
use Rattle.net_model.specs.Action.{Action}
use Rattle.run_types.specs.declared.item.Item.{Item}
use Rattle.run_types.specs.declared.command.Command.{Command}
use Rattle.run_model.specs.Script.{Script}
use Rattle.run_model.specs.Play.{play, numbered, IsPlay}
use Rattle.run_model.specs.Headline.{Took, Given, report_pieces}
use Rattle.run_ops.specs.Acting.{IsReady, Plays}
use Rattle.run_lines.specs.declared.stop.Stop.{Stop}
use Rattle.run_lines.specs.Running.{StopsAs}
use Rattle.law_run.specs.Kinds.{is_unhanding, is_ledger_line}
use Rattle.law_run.specs.Ledgers.{ledgers_of}
use Rattle.run_tasks.specs.declared.handed.Handed.{Handed}
use Rattle.run_tasks.specs.Told.{ledgers_alone}
use Rattle.run_tasks.specs.Counting.{AreHanded}

-- The line hands out no key and reports no ledger.
abbrev pub is_silent : Command → Bool
is_silent command = is_unhanding command && not (is_ledger_line command)

-- A whole script was done. The sink took exactly the text of its ledgers, and this many keys were handed out.
pub record Finishes {S : Type 0} (Stands : S → Network → World → Type 0) (Tallied : S → S → Site → List Action → Type 0) (nodes : List (List ℕ)) (old new : S)
    (before taken : Given) (number : ℕ) (net : Network) (w : World) (script : Script) (handed : Handed) : Type 0 where
  pub items : List Item
  pub plays : Plays Stands Tallied old new net w script items
  pub took : Took before taken (report_pieces nodes (ledgers_of (numbered number items)))
  pub keys : AreHanded net w plays.actions handed

-- The script stopped early, or after its last action. What is left of the network rests in the world after that. The stop says what the sink took of
-- the ledgers.
pub record Stops {S : Type 0} (Rests : S → Network → World → Type 0) (Tallied : S → S → Site → List Action → Type 0) (nodes : List (List ℕ)) (old new : S)
    (before taken : Given) (number : ℕ) (net : Network) (w : World) (script : Script) (stop : Stop) : Type 0 where
  pub actions : List Action
  pub is : IsPlay net w script actions
  pub rests : Rests new net (play net number w script actions).world
  pub tallied : Tallied old new net.site actions
  pub told : StopsAs stop nodes (ledgers_alone (play net number w script actions)) before taken

-- The script finishes or stops in this way, in each network and world for which the state is ready.
abbrev pub Runs : {S : Type 0} → (Stands Rests : S → Network → World → Type 0) → (Tallied : S → S → Site → List Action → Type 0) → List (List ℕ) → (old new : S) →
    (before taken : Given) → ℕ → Script → Result Handed Stop → Type 0
Runs Stands Rests Tallied nodes old new before taken number script result =
    (net : Network) (w : World) → IsReady Stands old net w →
    MatchResult result (λ handed. Finishes Stands Tallied nodes old new before taken number net w script handed)
    (λ stop. Stops Rests Tallied nodes old new before taken number net w script stop)
