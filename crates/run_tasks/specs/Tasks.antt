-- The outcome of tasks that are done in order.
use Rattle.std.specs.Prelude.{◌≡◌, ℕ, ◌≤◌, List, ◌++◌, length, Result, MatchResult}
use Rattle.net_model.specs.Site.{Site}
use Rattle.net_model.specs.World.{Network, World}
use Rattle.net_model.specs.Action.{Action}
use Rattle.run_types.specs.declared.item.NumberedItem.{NumberedItem}
use Rattle.run_model.specs.Turn.{HttpTexts}
use Rattle.run_model.specs.Play.{Whole}
use Rattle.run_model.specs.Report.{Task, Performed, IsRunOf, report, actions_of}
use Rattle.run_model.specs.Headline.{Given, Took, TookUpTo, report_pieces}
use Rattle.run_ops.specs.Acting.{IsReady}
use Rattle.run_lines.specs.declared.stop.Stop.{Stop}
use Rattle.run_lines.specs.Running.{StopsAs}

-- The pieces that the sink took begin with those of all that was reported before the last task that was done. So only items of this task may be missing, and
-- after a task whose items are missing no other was done. Behind the pieces there may be a part of one more. `written` says which items are written.
pub record IsCut (written : List NumberedItem → List NumberedItem) (nodes : List (List ℕ)) (http : HttpTexts) (net : Network) (w : World) (tasks : List Task) (done : List Performed)
    (before taken : Given) : Type 0 where
  pub front : List Performed
  pub last : List Performed
  pub split : done ≡ front ++ last
  pub one : length last ≤ 1
  pub more : List (List ℕ)
  pub part : List ℕ
  pub took : TookUpTo before taken (report_pieces nodes (written (report http net w tasks front).items) ++ more) part

-- What was done is a run of these tasks by `workers` workers. If all tasks were done, the network is ready for the world after them, and the sink
-- took exactly the pieces of the report. If the run stopped early, what is left rests in the world where it stopped, and the report ends as that stop
-- says.
pub record RanTasks {S T : Type 0} (Stands Rests : S → Network → World → Type 0) (Tallied : S → S → Site → List Action → Type 0) (nodes : List (List ℕ)) (old new : S)
    (before taken : Given) (http : HttpTexts) (net : Network) (workers : ℕ) (w : World) (tasks : List Task) (result : Result T Stop) : Type 0 where
  pub done : List Performed
  pub is : IsRunOf http net workers w tasks done
  pub left : MatchResult result (λ answer. IsReady Stands new net (report http net w tasks done).world) (λ stop. Rests new net (report http net w tasks done).world)
  pub tallied : Tallied old new net.site (actions_of net done)
  pub told : MatchResult result (λ answer. ((report http net w tasks done).ending ≡ Whole) × Took before taken (report_pieces nodes (report http net w tasks done).items))
      (λ stop. StopsAs stop nodes (report http net w tasks done) before taken)
  pub cut : IsCut (λ items. items) nodes http net w tasks done before taken
