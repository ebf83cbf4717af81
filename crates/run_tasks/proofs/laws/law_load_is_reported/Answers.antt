use Rattle.std.proofs.Common.{◌≡◌, true, sym, subst}
use Rattle.std.specs.List.{list_all}
use Rattle.net_model.specs.World.{World, first}
use Rattle.net_model.specs.Step.{run}
use Rattle.net_model.specs.Deliveries.{deliveries}
use Rattle.run_types.specs.declared.scenario.Scenario.{Scenario}
use Rattle.run_model.specs.Left.{to_masters, to_slaves}
use Rattle.run_model.specs.Course.{tasks_of, lines_run}
use Rattle.law_run.specs.Handed.{enc_keys, dec_keys}
use Rattle.law_run.specs.Kinds.{is_load_task}
use Rattle.run_tasks.proofs.Reported.{is_reported}
use Rattle.run_tasks.proofs.laws.law_load_is_reported.Goals as goal

pub returns : goal.returns
returns c = λ http scenario rounds course stop old new over told.
    let tasks = tasks_of scenario in
    let net = course.net in
    let actions = lines_run course in
    let begins = c.law_first_may_begin.ensures net in
    let runs = c.law_tasks_are_run.ensures.run http net 1 first tasks course.done over.network begins.conserved over.lines in
    let loads = subst (λ (s : Scenario). list_all is_load_task (tasks_of s) ≡ true) (sym over.scenario_is) (c.law_load_lines.ensures.tasks rounds) in
    let pairs = c.law_loads_are_of_pairs.ensures.tasks http net 1 first tasks course.done loads over.lines in
    let masters = subst (λ (w : World). to_masters (run net w actions) (deliveries net w actions) ≡ enc_keys net w actions) (sym over.begin)
    (c.law_masters_and_slaves.ensures.masters net actions over.network runs pairs) in
    let slaves = subst (λ (w : World). to_slaves (run net w actions) (deliveries net w actions) ≡ dec_keys net w actions) (sym over.begin)
    (c.law_masters_and_slaves.ensures.slaves net actions over.network runs pairs) in
    is_reported http scenario rounds course over masters slaves stop old new told
