-- What a node's manager has of the lanes that leave its node.
use Rattle.std.specs.Prelude.{ℕ, Bool, false, Option, Some, None}
use Rattle.qkd_base.specs.declared.lane.Lane.{Lane}
use Rattle.net_model.specs.View.{Port, received_of, port_of}
use Rattle.world_state.specs.Passed.{is_up, Post, On, Off}

-- The node has a manager, and it is up.
abbrev pub is_on : {K E : Type 0} → Post K E → Bool
is_on (On m) = is_up m.standing
is_on (Off disk entropy) = false

abbrev pub planned_of : Option Port → ℕ
planned_of None = 0
planned_of (Some p) = p.planned

abbrev pub received_on : Option Port → ℕ
received_on None = 0
received_on (Some p) = received_of p

-- the planned end of a lane, and its received bytes; 0 without a manager
abbrev pub planned_at : {K E : Type 0} → Post K E → Lane → ℕ
planned_at (On m) l = planned_of (port_of m.view l.link)
planned_at (Off disk entropy) l = 0

abbrev pub received_at : {K E : Type 0} → Post K E → Lane → ℕ
received_at (On m) l = received_on (port_of m.view l.link)
received_at (Off disk entropy) l = 0
