use Rattle.std.proofs.Common.{◌≢◌, ◌<◌, ℕ, Some}
use Rattle.route_table.specs.Table.{ends_of}
use Rattle.route_table.proofs.route_table.RouteTable.link_between.Given as goal

abbrev pub invariant-loop-number : goal.invariant-loop-number
invariant-loop-number l = (link : ℕ) → link < l.number → ends_of l.self link ≢ Some (l.low, l.high)
