-- The outcome of the tasks of a load.
use Rattle.std.specs.Prelude.{ℕ, List, Result, MatchResult}
use Rattle.net_model.specs.Site.{Site}
use Rattle.net_model.specs.World.{Network, World}
use Rattle.net_model.specs.Action.{Action}
use Rattle.run_model.specs.Turn.{HttpTexts}
use Rattle.run_model.specs.Report.{Task, Performed, report, actions_of, IsRunOf}
use Rattle.run_model.specs.Headline.{Given}
use Rattle.run_ops.specs.Acting.{IsReady}
use Rattle.run_lines.specs.declared.stop.Stop.{Stop}
use Rattle.run_lines.specs.Running.{StopsAs}
use Rattle.law_run.specs.Handed.{enc_keys, dec_keys}
use Rattle.law_run.specs.Ledgers.{ledgers_of}
use Rattle.run_tasks.specs.declared.handed.Handed.{Handed}
use Rattle.run_tasks.specs.Told.{ledgers_alone, ended, IsLoadTold}
use Rattle.run_tasks.specs.Leading.{Went}
use Rattle.run_tasks.specs.Tasks.{IsCut}

-- The tasks stopped early, or after the last of them. What is left of the network rests in the world after that. The stop says what the sink took of
-- the ledgers.
pub record Stopped {S : Type 0} (Rests : S → Network → World → Type 0) (Tallied : S → S → Site → List Action → Type 0) (nodes : List (List ℕ)) (old new : S)
    (before taken : Given) (http : HttpTexts) (net : Network) (w : World) (tasks : List Task) (stop : Stop) : Type 0 where
  pub done : List Performed
  pub is : IsRunOf http net 1 w tasks done
  pub rests : Rests new net (report http net w tasks done).world
  pub tallied : Tallied old new net.site (actions_of net done)
  pub told : StopsAs stop nodes (ledgers_alone (report http net w tasks done)) before taken
  pub cut : IsCut ledgers_of nodes http net w tasks done before taken

-- All tasks before `rest` were done, and this many keys were handed out; or the tasks stopped.
abbrev pub Goes : {S : Type 0} → (Stands Rests : S → Network → World → Type 0) → (Tallied : S → S → Site → List Action → Type 0) → List (List ℕ) → (old new : S) →
    (before taken : Given) → HttpTexts → Network → World → List Task → List Task → Result Handed Stop → Type 0
Goes Stands Rests Tallied nodes old new before taken http net w tasks rest result =
    MatchResult result (λ handed. (after : World) × Went Stands Tallied nodes old new before taken http net w tasks after rest handed)
    (λ stop. Stopped Rests Tallied nodes old new before taken http net w tasks stop)

-- What was done is a run of these tasks by one worker. If all were done, the network is ready for the world after them. If the run stopped early,
-- what is left rests in the world where it stopped. The sink took the load's text as the result says, with the numbers of keys that the run handed to
-- masters and to slaves.
pub record RanLoad {S T : Type 0} (Stands Rests : S → Network → World → Type 0) (Tallied : S → S → Site → List Action → Type 0) (nodes : List (List ℕ)) (old new : S)
    (before taken : Given) (http : HttpTexts) (net : Network) (w : World) (tasks : List Task) (result : Result T Stop) : Type 0 where
  pub done : List Performed
  pub is : IsRunOf http net 1 w tasks done
  pub left : MatchResult result (λ answer. IsReady Stands new net (report http net w tasks done).world) (λ stop. Rests new net (report http net w tasks done).world)
  pub tallied : Tallied old new net.site (actions_of net done)
  pub told : IsLoadTold (ended result) nodes (report http net w tasks done) (enc_keys net w (actions_of net done)) (dec_keys net w (actions_of net done)) before taken
  pub cut : IsCut ledgers_of nodes http net w tasks done before taken
