use Rattle.std.proofs.Common.{◌≡◌, drop}
use Rattle.std.specs.Prelude.{is_none}
use Rattle.std.specs.List.{position_from}
use Rattle.route_table.proofs.route_table.RouteTable.free_link.Given as goal

abbrev pub invariant-loop-number : goal.invariant-loop-number
invariant-loop-number l = position_from is_none 0 l.self ≡ position_from is_none l.number (drop l.number l.self)
