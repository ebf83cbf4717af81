-- The progress of a network through the tasks of a load.
use Rattle.std.specs.Prelude.{◌≡◌, ℕ, List, ◌++◌}
use Rattle.net_model.specs.Site.{Site}
use Rattle.net_model.specs.World.{Network, World}
use Rattle.net_model.specs.Action.{Action}
use Rattle.net_model.specs.Step.{run}
use Rattle.run_types.specs.declared.item.NumberedItem.{NumberedItem}
use Rattle.run_model.specs.Turn.{HttpTexts}
use Rattle.run_model.specs.Play.{reporting}
use Rattle.run_model.specs.Report.{Task, Performed, report, actions_of, IsRunOf}
use Rattle.run_model.specs.Headline.{Took, Given, report_pieces}
use Rattle.run_ops.specs.Acting.{IsReady}
use Rattle.law_run.specs.Ledgers.{ledgers_of}
use Rattle.run_tasks.specs.declared.handed.Handed.{Handed}
use Rattle.run_tasks.specs.Counting.{AreHanded}

-- What was done is a first part of a run of these tasks. It reports these items and leads to a world where `rest` is left to do.
pub record Leads (http : HttpTexts) (net : Network) (w : World) (tasks : List Task) (done : List Performed) (items : List NumberedItem) (after : World) (rest : List Task) : Type 0 where
  pub is : (more : List Performed) → IsRunOf http net 1 after rest more → IsRunOf http net 1 w tasks (done ++ more)
  pub said : (more : List Performed) → report http net w tasks (done ++ more) ≡ reporting items (report http net after rest more)
  pub led : after ≡ run net w (actions_of net done)

-- A network did the tasks before `rest`, and is ready for `rest`. The sink took exactly the ledgers of what was reported, and this many keys were
-- handed out.
pub record Went {S : Type 0} (Stands : S → Network → World → Type 0) (Tallied : S → S → Site → List Action → Type 0) (nodes : List (List ℕ)) (old now : S) (before taken : Given)
    (http : HttpTexts) (net : Network) (w : World) (tasks : List Task) (after : World) (rest : List Task) (handed : Handed) : Type 0 where
  pub done : List Performed
  pub items : List NumberedItem
  pub leads : Leads http net w tasks done items after rest
  pub ready : IsReady Stands now net after
  pub tallied : Tallied old now net.site (actions_of net done)
  pub took : Took before taken (report_pieces nodes (ledgers_of items))
  pub keys : AreHanded net w (actions_of net done) handed
