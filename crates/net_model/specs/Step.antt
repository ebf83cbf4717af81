-- The step of the network: how each action changes the world, and when it may happen. A run is a list of actions.
use Rattle.std.specs.Prelude.{◌≡◌, ℕ, ◌&&◌, nat_lt, nat_le, Bool, true, false, List, [], ◌∷◌, length, is_some, if◌then◌else◌}
use Rattle.std.specs.List.{list_all}
use Rattle.qkd_base.specs.Family.{number_set}
use Rattle.net_model.specs.declared.event.Event.{Event}
use Rattle.net_model.specs.declared.event.Event.TheVariants.{Block, Heard, Note}
use Rattle.net_model.specs.Site.{outgoing_lanes, is_incident}
use Rattle.net_model.specs.World.{Network, World, no_volatile}
use Rattle.net_model.specs.Journal.{is_nil}
use Rattle.net_model.specs.Events.{is_valid_event, is_lane}
use Rattle.net_model.specs.Action.{Ok, Action, Start, Crash, Arm, SetLink, TakeBlock, Ask, Allocate, Transmit, Complete, Deliver, Flip, Forge, Outcome, Replies, Crashed, WasDown, Armed, LinkSet, is_shown, environment_of}
use Rattle.net_model.specs.Handle.{handle, take_block}
use Rattle.net_model.specs.Frames.{allocate, transmit, deliver, flip, tampered, is_unclaimed, outgoing_of}
use Rattle.net_model.specs.Start.{start, may_recover, is_plain}

abbrev pub crash : World → ℕ → World × Outcome
crash w v = if w.up v then (record w { up = number_set w.up v false; volatile = number_set w.volatile v no_volatile }, Crashed) else (w, WasDown)

-- a manager notes what became of its frames; if it is down, it notes nothing
abbrev pub complete_node : Network → World → ℕ → World × Outcome
complete_node net w v =
    let out = handle net w v (Note (w.placings v)) Ok in
    (record (out.0) { placings = number_set w.placings v [] }, out.1)

unfoldable pub step : Network → World → Action → World × Outcome
step net w (Start v recovery) = start net w v recovery
step net w (Crash v) = crash w v
step net w (Arm v fault) = (w, Armed)
step net w (SetLink link up) = (record w { link_up = number_set w.link_up link up }, LinkSet)
step net w (TakeBlock v link environment) = take_block net w v link environment
step net w (Ask v event environment) = handle net w v event environment
step net w (Allocate t) = allocate w t
step net w (Transmit l j environment) = transmit net w l j environment
step net w (Complete v) = complete_node net w v
step net w (Deliver l number environment) = deliver net w l number environment
step net w (Flip l number bit environment) = flip net w l number bit environment
step net w (Forge l octets environment) = tampered net w l octets environment

-- ---- when an action may happen

-- all orders of a node are claimed, and all its frames are put
abbrev pub is_sent : Network → World → ℕ → Bool
is_sent net w v = list_all (λ l. is_nil (w.unclaimed l) && is_nil (w.outgoing l)) (outgoing_lanes net.site v)

-- all orders of a node are claimed, all its frames are put, and their placings are noted
abbrev pub is_quiet : Network → World → ℕ → Bool
is_quiet net w v = is_sent net w v && is_nil (w.placings v)

-- blocks, frames and placings reach a manager by actions of their own
abbrev pub is_asked : Event → Bool
is_asked (Block link number bytes) = false
is_asked (Heard l bytes) = false
is_asked (Note placings) = false
is_asked _ = true

abbrev pub is_node : Network → ℕ → Bool
is_node net v = nat_lt v net.site.nodes

abbrev pub is_link : Network → ℕ → Bool
is_link net link = nat_lt link net.site.links

unfoldable pub is_enabled : Network → World → Action → Bool
is_enabled net w (Start v recovery) = is_node net v && (if w.up v then is_plain recovery else is_quiet net w v && may_recover net w v recovery)
is_enabled net w (Crash v) = is_node net v && is_quiet net w v
is_enabled net w (Arm v fault) = is_node net v
is_enabled net w (SetLink link up) = is_link net link
is_enabled net w (TakeBlock v link environment) = is_node net v && is_link net link && is_incident net.site v link
is_enabled net w (Ask v event environment) = is_node net v && is_asked event && is_valid_event net.site v event
is_enabled net w (Allocate t) = is_lane net.site t.lane && is_unclaimed w t
is_enabled net w (Transmit l j environment) = is_lane net.site l && is_some (outgoing_of j (w.outgoing l))
is_enabled net w (Complete v) = is_node net v && is_sent net w v
is_enabled net w (Deliver l number environment) = is_lane net.site l
is_enabled net w (Flip l number bit environment) = is_lane net.site l
is_enabled net w (Forge l octets environment) = is_lane net.site l && nat_le 1 (length octets) && nat_le (length octets) 600 && list_all (λ b. nat_lt b 256) octets

-- the action may happen, and the answer of the outside is visible in the outcome
abbrev pub is_step : Network → World → Action → Bool
is_step net w action = is_enabled net w action && is_shown (environment_of action) (step net w action).1

abbrev pub IsStep : Network → World → Action → Type 0
IsStep net w action = is_step net w action ≡ true

-- ---- runs

unfoldable pub run : Network → World → List Action → World
run net w [] = w
run net w (a ∷ rest) = run net (step net w a).0 rest

unfoldable pub outcomes : Network → World → List Action → List Outcome
outcomes net w [] = []
outcomes net w (a ∷ rest) = (step net w a).1 ∷ outcomes net (step net w a).0 rest

unfoldable pub is_run : Network → World → List Action → Bool
is_run net w [] = true
is_run net w (a ∷ rest) = is_step net w a && is_run net (step net w a).0 rest

abbrev pub IsRun : Network → World → List Action → Type 0
IsRun net w actions = is_run net w actions ≡ true
