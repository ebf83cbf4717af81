use Rattle.std.proofs.Common.{◌≡◌, ◌≤◌, ◌*◌}
use Rattle.run_model.specs.Load.{names_before}
use Rattle.scenario_gen.proofs.round.names_before.Given as goal

abbrev pub invariant-loop-r : goal.invariant-loop-r
invariant-loop-r l = record {
  sum : l.count ≡ names_before l.node l.r;
  few : l.count ≤ 4 * l.r;
}
