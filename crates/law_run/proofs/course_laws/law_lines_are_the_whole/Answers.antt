use Rattle.std.proofs.Common.{◌∙◌, List, sym, ap, append-nil}
use Rattle.net_model.specs.Action.{Action}
use Rattle.net_model.specs.Step.{run}
use Rattle.run_model.specs.Report.{actions_of}
use Rattle.run_model.specs.Course.{tasks_of}
use Rattle.law_run.proofs.course_laws.law_lines_are_the_whole.Goals as goal

pub returns-clause-actions : goal.returns-clause-actions
returns-clause-actions c = λ net begin done. append-nil (actions_of net done)

pub returns-clause-world : goal.returns-clause-world
returns-clause-world c = λ http scenario workers net begin done b conserved lines.
    c.law_tasks_are_run.ensures.world http net workers begin (tasks_of scenario) done b.network conserved lines ∙
    ap (λ (xs : List Action). run net begin xs) (sym (append-nil (actions_of net done)))
