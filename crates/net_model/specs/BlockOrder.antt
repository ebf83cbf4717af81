-- A block of lines, done by several workers at once, is one run. In this run the managers' histories come first, in
-- order of node, and then the claims, the puts and the notes.
use Rattle.std.specs.Prelude.{◌≡◌, ℕ, ◌+◌, ◌*◌, ◌==◌, ◌&&◌, nat_le, Bool, true, false, List, [], ◌∷◌, ◌++◌, length, map, count_by, Option, Some, None, if◌then◌else◌}
use Rattle.std.specs.List.{list_all, flat_map}
use Rattle.qkd_base.specs.Lane.{way_number, lane_eq}
use Rattle.qkd_base.specs.declared.lane.Lane.{Lane}
use Rattle.net_model.specs.declared.event.Event.{Event}
use Rattle.net_model.specs.declared.event.Event.TheVariants.{Fill, Feed, Plan, Enc, Dec, Status, Open, Join, Get, Close, FillGroup, EncGroup}
use Rattle.net_model.specs.Site.{Site, receiver, count_up}
use Rattle.net_model.specs.World.{Network, World, Transmission, Outgoing}
use Rattle.net_model.specs.Window.{transmission_eq}
use Rattle.net_model.specs.Events.{is_lane}
use Rattle.net_model.specs.Action.{Environment, Ok, OutOfMemory, IoFault, Action, Ask, Allocate, Transmit, Complete, Deliver}
use Rattle.net_model.specs.Step.{run, IsRun}

-- a list merges several lists: it has all of their items, and keeps the order of each
pub data IsMerge {A : Type 0} : List (List A) → List A → Type 0 where
  Done : (parts : List (List A)) → list_all (λ p. length p == 0) parts ≡ true → IsMerge parts []
  Next : (before after : List (List A)) (x : A) (rest out : List A) →
      IsMerge (before ++ rest ∷ after) out → IsMerge (before ++ (x ∷ rest) ∷ after) (x ∷ out)

-- the events that a line of a block may ask of a manager
abbrev pub is_block_event : Event → Bool
is_block_event (Fill m s bits count) = true
is_block_event (Feed stream count) = true
is_block_event Plan = true
is_block_event (Enc m s n bits) = true
is_block_event (Dec s m names) = true
is_block_event (Status m s) = true
is_block_event (Open source peer bits) = true
is_block_event (Join caller other stream bits) = true
is_block_event (Get caller stream index) = true
is_block_event (Close caller stream) = true
is_block_event (FillGroup m slaves bits count) = true
is_block_event (EncGroup m slaves n bits) = true
is_block_event _ = false

-- the actions that a line of a block asks of manager v
abbrev pub is_turn_of : Site → ℕ → Action → Bool
is_turn_of s v (Ask u event environment) = (u == v) && is_block_event event
is_turn_of s v (Deliver l number environment) = receiver s l == v
is_turn_of s v _ = false

abbrev pub lane_number : Lane → ℕ
lane_number l = 2 * l.link + way_number l.way

-- The lanes are in order. Offsets and wire numbers within a lane are in order anyway, since each claim takes the next
-- bytes and each put the next number.
abbrev pub is_by_lane : List Lane → Bool
is_by_lane [] = true
is_by_lane (l ∷ []) = true
is_by_lane (l ∷ k ∷ ls) = nat_le (lane_number l) (lane_number k) && is_by_lane (k ∷ ls)

abbrev pub with_lane : Lane → Option (List Lane) → Option (List Lane)
with_lane l None = None
with_lane l (Some ls) = Some (l ∷ ls)

-- the lanes of the claims, and the lanes of the puts
abbrev pub claim_lanes : List Action → Option (List Lane)
claim_lanes [] = Some []
claim_lanes (Allocate t ∷ rest) = with_lane t.lane (claim_lanes rest)
claim_lanes (_ ∷ rest) = None

abbrev pub put_lanes : List Action → Option (List Lane)
put_lanes [] = Some []
put_lanes (Transmit l j environment ∷ rest) = with_lane l (put_lanes rest)
put_lanes (_ ∷ rest) = None

abbrev pub are_by_lane : Option (List Lane) → Bool
are_by_lane None = false
are_by_lane (Some ls) = is_by_lane ls

-- the parts of a block: a history for each node, in order of node, then the claims, then the puts
pub record Parts : Type 0 where
  pub histories : List (List Action)
  pub claims : List Action
  pub puts : List Action

abbrev pub all_histories : Parts → List Action
all_histories p = flat_map (λ h. h) p.histories

abbrev pub completions : Network → List Action
completions net = map (λ v. Complete v) (count_up net.site.nodes)

-- the actions of a block as one run
unfoldable pub block_actions : Network → Parts → List Action
block_actions net p = all_histories p ++ p.claims ++ p.puts ++ completions net

-- each manager's history is a run of its own that begins with the world at the block's start
abbrev pub AreChains : Network → World → ℕ → List (List Action) → Type 0
AreChains net w v [] = Unit {0}
AreChains net w v (h ∷ hs) = (list_all (is_turn_of net.site v) h ≡ true) × IsRun net w h × AreChains net w (v + 1) hs

-- the orders of a lane that are claimed, and the frames that are put on it
abbrev pub claimed_on : Lane → List Action → List Transmission
claimed_on l [] = []
claimed_on l (Allocate t ∷ rest) = if lane_eq t.lane l then t ∷ claimed_on l rest else claimed_on l rest
claimed_on l (_ ∷ rest) = claimed_on l rest

abbrev pub put_on : Lane → List Action → List ℕ
put_on l [] = []
put_on l (Transmit k j environment ∷ rest) = if lane_eq k l then j ∷ put_on l rest else put_on l rest
put_on l (_ ∷ rest) = put_on l rest

-- the answers of a wire: it takes the frame, or it refuses it, for a fault or since memory ran out
abbrev pub is_wire_answer : Environment → Bool
is_wire_answer Ok = true
is_wire_answer OutOfMemory = true
is_wire_answer IoFault = true
is_wire_answer _ = false

abbrev pub is_claim : Site → Action → Bool
is_claim s (Allocate t) = is_lane s t.lane
is_claim s _ = false

abbrev pub is_put : Site → Action → Bool
is_put s (Transmit l j environment) = is_lane s l && is_wire_answer environment
is_put s _ = false

-- After the histories, each order is claimed once, lane by lane. Then each frame that may be put is put once, lane by
-- lane.
pub record IsBlock (net : Network) (w : World) (p : Parts) : Type 0 where
  pub nodes : length p.histories ≡ net.site.nodes
  pub chains : AreChains net w 0 p.histories
  pub claims : list_all (is_claim net.site) p.claims ≡ true
  pub claim_order : are_by_lane (claim_lanes p.claims) ≡ true
  pub claimed : (l : Lane) (t : Transmission) →
      count_by (transmission_eq t) (claimed_on l p.claims) ≡ count_by (transmission_eq t) ((run net w (all_histories p)).unclaimed l)
  pub puts : list_all (is_put net.site) p.puts ≡ true
  pub put_order : are_by_lane (put_lanes p.puts) ≡ true
  pub put : (l : Lane) (j : ℕ) →
      count_by (λ i. i == j) (put_on l p.puts) ≡ count_by (λ (o : Outgoing). o.frame == j) ((run net w (all_histories p ++ p.claims)).outgoing l)

-- All of a block is then one run from the block's start: no manager's turn depends on another manager, on a claim or on
-- a put.
abbrev pub BlockIsRun : Network → World → Parts → Type 0
BlockIsRun net w p = IsBlock net w p → IsRun net w (block_actions net p)
