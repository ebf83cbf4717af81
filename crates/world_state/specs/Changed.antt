-- The lanes and the managers of a state that an action changes.
use Rattle.std.specs.Prelude.{ℕ, Bool, true, false, ◌&&◌, ◌||◌}
use Rattle.qkd_base.specs.declared.lane.Lane.{Lane}
use Rattle.net_model.specs.Site.{Site}
use Rattle.net_model.specs.Action.{Action, Ask, Allocate, Transmit}
use Rattle.law_invariant.specs.May.{is_plan}
use Rattle.law_locality.specs.Touched.{touches_node, touches_lane, changes_part, Blocks, Own, Wire}

-- The action changes the lane's blocks, its owners or its wire.
abbrev pub changes_lane : Site → Action → Lane → Bool
changes_lane s a l = touches_lane s a l && (changes_part Blocks a || changes_part Own a || changes_part Wire a)

-- The action changes the node's manager. Putting a frame changes no manager: its sender only notes what became of the frame.
abbrev pub changes_node : Site → Action → ℕ → Bool
changes_node s (Transmit l j environment) v = false
changes_node s a v = touches_node s a v

-- The action is a plan, or is done for a plan's frames.
abbrev pub sends : Action → Bool
sends (Ask v event environment) = is_plan event
sends (Allocate t) = true
sends (Transmit l j environment) = true
sends _ = false
