use Rattle.std.proofs.Common.{◌≡◌, drop}
use Rattle.net_model.specs.Tick.{tick_order}
use Rattle.world_state.proofs.Goings.{Went}
use Rattle.world_state.proofs.lanes.put_lanes.Given as goal
use Rattle.world_state.specs.Outside.{outside}

abbrev pub invariant-loop-lane : goal.invariant-loop-lane
invariant-loop-lane g l = record {
  site : l.state.site ≡ l.fn.state.site;
  posts : l.state.posts.items ≡ l.fn.state.posts.items;
  went : Went (outside g.K.Disk g.Q.Device g.E.Entropy g.X.Wire)
      l.fn.state l.state l.fn.node (tick_order l.fn.lanes l.fn.repeats l.fn.orders) (tick_order (drop l.lane-index l.fn.lanes) l.fn.repeats l.fn.orders) l.fn.progress l.progress;
}
