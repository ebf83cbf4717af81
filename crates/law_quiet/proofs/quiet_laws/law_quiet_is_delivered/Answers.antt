use Rattle.net_model.specs.World.{World, first}
use Rattle.net_model.specs.Step.{run}
use Rattle.law_invariant.proofs.Steps.{first_keeps, run_keeps}
use Rattle.law_quiet.proofs.AwaitedRuns.{run_awaited, quiet_awaits}
use Rattle.law_quiet.proofs.NotedSteps.{run_noted}
use Rattle.law_quiet.proofs.Quieting.{first_quiet, calm4, there_after, arrives, returns}
use Rattle.law_quiet.proofs.quiet_laws.law_quiet_is_delivered.Goals as goal

pub returns-clause-keeps : goal.returns-clause-keeps
returns-clause-keeps c = λ net w after n f network conserved quiet awaits silent there.
    let calm = calm4 net network w after conserved quiet awaits silent in
    (calm.conserved, calm.quiet, calm.awaits, there_after net network w after conserved quiet awaits silent n f there)

pub returns-clause-first : goal.returns-clause-first
returns-clause-first c = first_quiet

pub returns-clause-arrives : goal.returns-clause-arrives
returns-clause-arrives c = λ net w after n f network conserved quiet awaits silent there way. arrives net network w after conserved quiet awaits silent n f there way

pub returns-clause-returns : goal.returns-clause-returns
returns-clause-returns c = λ net w after n f network conserved quiet awaits silent noted there secret way.
    returns net network w after conserved quiet awaits silent noted.table n f there secret way

pub returns-clause-run_arrives : goal.returns-clause-run_arrives
returns-clause-run_arrives c = λ net actions after n f network is_run quiet silent there way.
    let w : World = run net first actions in
    let awaits = quiet_awaits net w (run_awaited net actions network is_run) quiet in
    arrives net network w after (run_keeps net first actions network (first_keeps net) is_run) quiet awaits silent n f there way

pub returns-clause-run_returns : goal.returns-clause-run_returns
returns-clause-run_returns c = λ net actions after n f network is_run quiet silent there secret way.
    let w : World = run net first actions in
    let awaits = quiet_awaits net w (run_awaited net actions network is_run) quiet in
    returns net network w after (run_keeps net first actions network (first_keeps net) is_run) quiet awaits silent (run_noted net actions network is_run).table n f there secret way
