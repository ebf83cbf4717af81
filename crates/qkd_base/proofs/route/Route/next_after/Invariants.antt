use Rattle.std.proofs.Common.{◌≡◌, length}
use Rattle.qkd_base.specs.Route.{next_after}
use Rattle.qkd_base.proofs.route.Route.next_after.Given as goal

abbrev pub invariant-loop-rest : goal.invariant-loop-rest
invariant-loop-rest l = next_after l.self l.node ≡ next_after l.rest l.node

abbrev pub decreases-loop-rest : goal.decreases-loop-rest
decreases-loop-rest l = length l.rest
