use Rattle.route_table.proofs.Walks.{least_is_unique}
use Rattle.route_table.proofs.uniqueness.least_walk_is_unique.Goals as goal

pub returns : goal.returns
returns c = least_is_unique c.args.table.now c.args.up c.args.from c.args.to
