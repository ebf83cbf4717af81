use Rattle.route_table.proofs.Tables.{table_first}
use Rattle.route_table.proofs.route_table.RouteTable.new.Goals as goal

pub invariant_of-result : goal.invariant_of-result
invariant_of-result c = table_first
