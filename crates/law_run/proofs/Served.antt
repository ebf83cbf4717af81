-- What connections asked of the managers, in sequence, continues the run of the lines.
use Rattle.std.proofs.Common.{◌≡◌, inl, inr, List, [], sym, subst}
use Rattle.std.specs.List.{flat_map}
use Rattle.net_model.specs.World.{Network, World}
use Rattle.net_model.specs.Premises.{IsNetwork}
use Rattle.net_model.specs.Invariant.{Conserved}
use Rattle.net_model.specs.Action.{Action}
use Rattle.net_model.specs.Step.{run, IsRun}
use Rattle.net_model.specs.BlockOrder.{AreChains}
use Rattle.run_types.specs.declared.scenario.Scenario.{Scenario}
use Rattle.run_model.specs.Report.{IsRunOf}
use Rattle.run_model.specs.Turn.{HttpTexts}
use Rattle.run_model.specs.Course.{Words, Run, Load, Serve, Course, lines_run, whole_run, tasks_of, workers_of, AreServed}
use Rattle.law_locality.proofs.Runs.{nothing_runs, runs-append}
use Rattle.law_locality.proofs.Chains.{kept, histories_run}
use Rattle.law_locality.proofs.Views.{same_for}
use Rattle.law_run.proofs.Tasks.{tasks_are_run}

abbrev flat : List (List Action) → List Action
flat hs = flat_map (λ h. h) hs

none_served : (net : Network) (w : World) (hs : List (List Action)) → hs ≡ [] → IsRun net w (flat hs)
none_served net w hs e = subst (λ (xs : List (List Action)). IsRun net w (flat xs)) (sym e) (nothing_runs net w)

chains_run : (net : Network) → IsNetwork net → (w : World) → Conserved net w → (hs : List (List Action)) → AreChains net w 0 hs → IsRun net w (flat hs)
chains_run net network w c hs chains = histories_run net network w c hs 0 w c (λ k more. same_for net k w) chains

served_run : (words : Words) (http : HttpTexts) (scenario : Scenario) (c : Course) → IsNetwork c.net → Conserved c.net (run c.net c.begin (lines_run c)) → AreServed words http scenario c →
    IsRun c.net (run c.net c.begin (lines_run c)) (flat c.served)
served_run (Serve workers connections port) http scenario c network k (inl none) = none_served c.net _ c.served none
served_run (Serve workers connections port) http scenario c network k (inr served) = chains_run c.net network _ k c.served served.2
served_run (Run workers) http scenario c network k none = none_served c.net _ c.served none
served_run (Load rounds) http scenario c network k none = none_served c.net _ c.served none

pub course_is_run : (words : Words) (http : HttpTexts) (scenario : Scenario) (c : Course) → IsNetwork c.net → Conserved c.net c.begin →
    IsRunOf http c.net (workers_of words) c.begin (tasks_of scenario) c.done → AreServed words http scenario c → IsRun c.net c.begin (whole_run c)
course_is_run words http scenario c network begin h served =
    let lines = tasks_are_run http c.net network (workers_of words) c.begin begin (tasks_of scenario) c.done h in
    let after : Conserved c.net (run c.net c.begin (lines_run c)) = kept c.net network (lines_run c) c.begin begin lines.0 in
    runs-append c.net (lines_run c) (flat c.served) c.begin lines.0 (served_run words http scenario c network after served)
