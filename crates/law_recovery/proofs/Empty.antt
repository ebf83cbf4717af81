-- Before any start the view of a manager is empty.
use Rattle.std.proofs.Common.{◌≡◌, ℕ, List, [], ◌∷◌, refl, map}
use Rattle.qkd_base.specs.declared.lane.Lane.{Lane}
use Rattle.qkd_base.specs.declared.lane.Way.{Way}
use Rattle.qkd_base.specs.declared.lane.Way.TheVariants.{Up, Down}
use Rattle.net_model.specs.OctetSequence.{first_blocks}
use Rattle.net_model.specs.Site.{lane_of, outgoing_lanes}
use Rattle.net_model.specs.World.{Network, first}
use Rattle.net_model.specs.Needed.{masked, view_of, port_at}
use Rattle.net_model.specs.Fold.{empty_port, empty_view}

port_empty : (net : Network) (link : ℕ) (way : Way) → port_at net first (lane_of link way) ≡ empty_port (lane_of link way)
unfolding first first_blocks
port_empty net link Up = refl
port_empty net link Down = refl

ports_empty : (net : Network) (ls : List Lane) → map (port_at net first) ls ≡ map empty_port ls
ports_empty net [] = refl
ports_empty net (l ∷ ls) = let one = port_empty net l.link l.way in let rest = ports_empty net ls in λ i. one i ∷ rest i

empty_with : (net : Network) (v : ℕ) → map (port_at net first) (outgoing_lanes net.site v) ≡ map empty_port (outgoing_lanes net.site v) → view_of net first v ≡ empty_view net.site v
unfolding view_of masked first
empty_with net v h = λ i. record (empty_view net.site v) { ports = h i }

pub first_empty : (net : Network) (v : ℕ) → view_of net first v ≡ empty_view net.site v
first_empty net v = empty_with net v (ports_empty net (outgoing_lanes net.site v))
