-- Which actions fit a site: everything that they name is declared and in range.
use Rattle.std.specs.Prelude.{ℕ, ◌&&◌, nat_lt, nat_le, not, Bool, true, false, length}
use Rattle.std.specs.List.{list_all}
use Rattle.net_model.specs.declared.event.Event.{Event}
use Rattle.net_model.specs.declared.event.Event.TheVariants.{Plan}
use Rattle.net_model.specs.Site.{Site, is_incident}
use Rattle.net_model.specs.Events.{is_valid_event, is_lane}
use Rattle.net_model.specs.Step.{is_asked}
use Rattle.net_model.specs.Action.{Action, Start, Crash, Arm, SetLink, TakeBlock, Ask, Allocate, Transmit, Complete, Deliver, Flip, Forge}

-- The event is a plan. Only a tick asks for a plan. The tick then puts the plan's frames on the wires and notes the
-- result, before anything else happens.
abbrev pub is_plan : Event → Bool
is_plan Plan = true
is_plan _ = false

-- The number of octets that may be passed in place of a frame: 1 to 600.
abbrev pub fits_a_frame : ℕ → Bool
fits_a_frame n = nat_le 1 n && nat_le n 600

abbrev pub is_fit : Site → Action → Bool
is_fit s (Start v recovery) = nat_lt v s.nodes
is_fit s (Crash v) = nat_lt v s.nodes
is_fit s (Arm v fault) = nat_lt v s.nodes
is_fit s (SetLink link up) = nat_lt link s.links
is_fit s (TakeBlock v link environment) = nat_lt v s.nodes && nat_lt link s.links && is_incident s v link
is_fit s (Ask v event environment) = nat_lt v s.nodes && is_asked event && not (is_plan event) && is_valid_event s v event
is_fit s (Deliver l number environment) = is_lane s l
is_fit s (Flip l number bit environment) = is_lane s l
is_fit s (Forge l octets environment) = is_lane s l && fits_a_frame (length octets) && list_all (λ b. nat_lt b 256) octets
is_fit s (Allocate t) = false
is_fit s (Transmit l j environment) = false
is_fit s (Complete v) = false
