use Rattle.std.proofs.Common.{◌≡◌, drop}
use Rattle.qkd_base.specs.Route.{is_distinct}
use Rattle.qkd_base.proofs.route.are_distinct.Given as goal

abbrev pub invariant-loop-i : goal.invariant-loop-i
invariant-loop-i l = is_distinct l.nodes ≡ is_distinct (drop l.i l.nodes)
