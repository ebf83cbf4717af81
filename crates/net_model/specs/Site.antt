-- The site, which never changes: the nodes, the links between them, and the applications.
use Rattle.std.specs.Prelude.{ℕ, zero, suc, ◌==◌, ◌||◌, Bool, List, [], ◌∷◌, ◌++◌, filter, map, if◌then◌else◌}
use Rattle.qkd_base.specs.declared.lane.Way.{Way}
use Rattle.qkd_base.specs.declared.lane.Way.TheVariants.{Up, Down}
use Rattle.qkd_base.specs.declared.lane.Lane.{Lane}

-- Nodes and links are numbered from 0. A link has a lower and a higher node, an application has a home, and a pair of
-- applications is a master or source with a slave or peer.
pub record Site : Type 0 where
  pub nodes : ℕ
  pub links : ℕ
  pub low : ℕ → ℕ
  pub high : ℕ → ℕ
  pub home : ℕ → ℕ
  pub allowed : ℕ → ℕ → Bool

-- chooses by the way of a lane: the first value if the lane leaves the link's low end, the second if it leaves the high
-- end
abbrev pub of_way : {A : Type 0} → Way → A → A → A
of_way Up low high = low
of_way Down low high = high

abbrev pub sender : Site → Lane → ℕ
sender s l = of_way l.way (s.low l.link) (s.high l.link)

abbrev pub receiver : Site → Lane → ℕ
receiver s l = of_way l.way (s.high l.link) (s.low l.link)

-- the numbers from 0 to n - 1
abbrev pub count_up : ℕ → List ℕ
count_up zero = []
count_up (suc n) = count_up n ++ n ∷ []

abbrev pub lane_of : ℕ → Way → Lane
lane_of link way = record { link = link; way = way }

-- the way of the lane by which a link leaves a node
abbrev pub outgoing_way : Site → ℕ → ℕ → Way
outgoing_way s v link = if s.low link == v then Up else Down

abbrev pub outgoing_lane : Site → ℕ → ℕ → Lane
outgoing_lane s v link = lane_of link (outgoing_way s v link)

abbrev pub is_incident : Site → ℕ → ℕ → Bool
is_incident s v link = (s.low link == v) || (s.high link == v)

-- the lanes that leave a node, in order of link
unfoldable pub outgoing_lanes : Site → ℕ → List Lane
outgoing_lanes s v = map (outgoing_lane s v) (filter (is_incident s v) (count_up s.links))
