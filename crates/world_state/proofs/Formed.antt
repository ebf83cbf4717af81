-- The next order of a plan is one that its lane may emit.
use Rattle.std.proofs.Common.{ℕ, List, ◌∷◌, refl}
use Rattle.net_model.specs.Facts.{IsWellFormed}
use Rattle.net_model.specs.declared.order.Order.{Order}
use Rattle.net_model.specs.declared.placing.Placing.{Placing}
use Rattle.net_model.specs.World.{Network, World}
use Rattle.net_model.specs.Tick.{Emission, New}
use Rattle.world_nodes.proofs.Emissions.{is_formed}
use Rattle.world_nodes.proofs.LaneGoing.{get_within}
use Rattle.world_state.specs.Stands.{place_of}
use Rattle.world_state.specs.Sending.{Sending}
use Rattle.world_state.specs.declared.state.State.{State}
use Rattle.world_state.proofs.OneSide.{place_within}
use Rattle.world_state.proofs.Emitting.{may_emit}
use Rattle.world_state.specs.Outside.{Outside}

pub order_formed : {K Q E X : Type 0} (outside : Outside K Q E X) (net : Network) (w : World) (v : ℕ) (order : Order) (es : List Emission) (s : State K Q E X) (placings : List Placing) →
    Sending outside s net w v (New order ∷ es) placings → IsWellFormed order.payload
order_formed {X = X} outside net w v order es s placings h =
    let side = get_within s.lanes.items (place_of order.lane) (place_within net.site order.lane _ h.sends.each.0.site h.stands.sides) in
    is_formed outside.wire net w side.0 (w.durable.lease order.lane) order (may_emit outside net w v order es s placings h side.0 side.1 (w.durable.lease order.lane) refl)
