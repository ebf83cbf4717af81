use Rattle.std.proofs.Common.{◌≡◌, drop}
use Rattle.world_state.specs.Sending.{orders_on}
use Rattle.world_state.proofs.Goings.{Went}
use Rattle.world_state.proofs.lanes.put_orders.Given as goal
use Rattle.world_state.specs.Outside.{outside}

abbrev pub invariant-loop-order : goal.invariant-loop-order
invariant-loop-order g l = record {
  site : l.state.site ≡ l.fn.state.site;
  posts : l.state.posts.items ≡ l.fn.state.posts.items;
  went : Went (outside g.K.Disk g.Q.Device g.E.Entropy g.X.Wire)
      l.fn.state l.state l.fn.node (orders_on l.fn.lane l.fn.orders) (orders_on l.fn.lane (drop l.order-index l.fn.orders)) l.fn.progress l.progress;
}
