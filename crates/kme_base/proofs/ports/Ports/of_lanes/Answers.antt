use Rattle.std.proofs.Common.{sym, subst}
use Rattle.kme_base.specs.Places.{AreEnds}
use Rattle.kme_base.proofs.Bounds.{empty_ends}
use Rattle.kme_base.proofs.ports.Ports.of_lanes.Goals as goal

pub invariant_of-result : goal.invariant_of-result
invariant_of-result c = subst AreEnds (sym c.in_ok-ends.ensures) (empty_ends c.args.lanes.now)
