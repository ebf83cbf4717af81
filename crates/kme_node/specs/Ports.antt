-- How records change a manager's ends of links.
use Rattle.std.specs.Prelude.{List, [], ◌∷◌, map}
use Rattle.net_model.specs.declared.record.Record.{Record}
use Rattle.net_model.specs.declared.record.Record.TheVariants.{Block, Lease}
use Rattle.net_model.specs.View.{Port}
use Rattle.net_model.specs.Fold.{with_block, with_lease}

-- a block and a lease change the ends, other records don't
abbrev pub ports_by : Record → List Port → List Port
ports_by (Block link number bytes) ports = map (with_block link number bytes) ports
ports_by (Lease lane end) ports = map (with_lease lane end) ports
ports_by _ ports = ports

abbrev pub ports_after : List Record → List Port → List Port
ports_after [] ports = ports
ports_after (r ∷ rs) ports = ports_after rs (ports_by r ports)
