-- The view of a manager: its own facts and marks, its ends of its links, and the state of its life.
use Rattle.std.specs.Prelude.{ℕ, ◌==◌, List, [], length, filter, find, Option, Some, None}
use Rattle.qkd_base.specs.Name.{Name}
use Rattle.qkd_base.specs.declared.lane.Lane.{Lane}
use Rattle.net_model.specs.declared.fact.Fact.{Fact}
use Rattle.net_model.specs.Site.{Site}
use Rattle.qkd_base.specs.LaneBytes.{lane_len, lane_octets}
use Rattle.net_model.specs.World.{Volatile}

-- A port is a node's end of a link. It has the lane that leaves the node, the blocks taken here, the leased and the
-- planned end of this lane, and the lease at the last start.
pub record Port : Type 0 where
  pub lane : Lane
  pub blocks : List (List ℕ)
  pub lease : ℕ
  pub planned : ℕ
  pub recovered : ℕ

-- A view consists of lists and numbers. Facts are in the order in which they were learned, and bytes that the node no
-- longer needs are zeros. Handings are those of applications at home here. Ports are in order of link.
pub record View : Type 0 where
  pub me : ℕ
  pub facts : List Fact
  pub acked : List Name
  pub handed : List (Name × ℕ)
  pub closed : List (Name × ℕ)
  pub ports : List Port
  pub volatile : Volatile

-- how many bytes of the outgoing lane were received, and how many of the incoming one
abbrev pub received_of : Port → ℕ
received_of p = lane_len p.lane.way (length p.blocks)

-- the bytes of the incoming lane
abbrev pub incoming_octets : Lane → Option Port → List ℕ
incoming_octets l None = []
incoming_octets l (Some p) = lane_octets l.way p.blocks

-- the port of a link
abbrev pub port_of : View → ℕ → Option Port
port_of v link = find (λ p. p.lane.link == link) v.ports

abbrev pub blocks_of : Option Port → ℕ
blocks_of None = 0
blocks_of (Some p) = length p.blocks

-- what was handed to the applications that are at home at a node
abbrev pub handed_at : Site → ℕ → List (Name × ℕ) → List (Name × ℕ)
handed_at s v hs = filter (λ h. s.home h.1 == v) hs
