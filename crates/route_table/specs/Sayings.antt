-- What a refusal says.
use Rattle.std.specs.Prelude.{ℕ, List, codes}
use Rattle.route_table.specs.declared.route_refusal.RouteRefusal.{RouteRefusal}
use Rattle.route_table.specs.declared.route_refusal.RouteRefusal.TheVariants.{SameNode, NoRoute}

abbrev pub said_of : RouteRefusal → List ℕ
said_of SameNode = codes "both nodes are the same"
said_of NoRoute = codes "no walk of at most 8 links that are up"
