use Rattle.std.proofs.Common.{◌∙◌, ◌+◌, refl, drop, [], ◌++◌}
use Rattle.net_model.specs.Tick.{tick_order}
use Rattle.world_state.specs.Sending.{repeats_on, orders_on}
use Rattle.world_state.proofs.Drops.{lane_here, no_lane}
use Rattle.world_state.proofs.Endings.{on_err}
use Rattle.world_state.proofs.Goings.{went_none, may_go, went_more, broke_there, went_like}
use Rattle.world_state.proofs.lanes.put_lanes.Goals as goal
use Rattle.world_state.specs.Outside.{outside}

pub put_repeats-requires : goal.put_repeats-requires
put_repeats-requires g c =
    let far = went_like (outside g.K.Disk g.Q.Device g.E.Entropy g.X.Wire)
    c.args.state.now c.loop-lane.state c.args.node (tick_order c.args.lanes.now c.args.repeats.now c.args.orders.now) (tick_order (drop c.loop-lane.lane-index c.args.lanes.now) c.args.repeats.now c.args.orders.now) _ c.args.progress.now c.loop-lane.progress
    (lane_here c.args.lanes.now c.loop-lane.lane-index c.lane-item.result c.args.repeats.now c.args.orders.now c.loop-lane-test.true c.lane-item.is) c.loop-lane.invariant.went in
    record {
      next = may_go (outside g.K.Disk g.Q.Device g.E.Entropy g.X.Wire)
          c.args.state.now c.loop-lane.state c.args.node (tick_order c.args.lanes.now c.args.repeats.now c.args.orders.now) (repeats_on c.lane-item.result c.args.repeats.now) ((orders_on c.lane-item.result c.args.orders.now) ++ (tick_order (drop (c.loop-lane.lane-index + 1) c.args.lanes.now) c.args.repeats.now c.args.orders.now))
          c.args.progress.now c.loop-lane.progress far c.requires.next;
    }

pub returns-in_err-put_repeats-clause-err : goal.returns-in_err-put_repeats-clause-err
returns-in_err-put_repeats-clause-err g c =
    let far = went_like (outside g.K.Disk g.Q.Device g.E.Entropy g.X.Wire)
    c.args.state.now c.loop-lane.state c.args.node (tick_order c.args.lanes.now c.args.repeats.now c.args.orders.now) (tick_order (drop c.loop-lane.lane-index c.args.lanes.now) c.args.repeats.now c.args.orders.now) _ c.args.progress.now c.loop-lane.progress
    (lane_here c.args.lanes.now c.loop-lane.lane-index c.lane-item.result c.args.repeats.now c.args.orders.now c.loop-lane-test.true c.lane-item.is) c.loop-lane.invariant.went in
    on_err c.from_residual.result (broke_there (outside g.K.Disk g.Q.Device g.E.Entropy g.X.Wire)
    c.args.state.now c.loop-lane.state c.args.node (tick_order c.args.lanes.now c.args.repeats.now c.args.orders.now) (repeats_on c.lane-item.result c.args.repeats.now) ((orders_on c.lane-item.result c.args.orders.now) ++ (tick_order (drop (c.loop-lane.lane-index + 1) c.args.lanes.now) c.args.repeats.now c.args.orders.now))
    c.args.progress.now c.loop-lane.progress far c.put_repeats.new.state c.in_err-put_repeats.ensures.err)

pub put_orders-requires : goal.put_orders-requires
put_orders-requires g c =
    let far = went_like (outside g.K.Disk g.Q.Device g.E.Entropy g.X.Wire)
    c.args.state.now c.loop-lane.state c.args.node (tick_order c.args.lanes.now c.args.repeats.now c.args.orders.now) (tick_order (drop c.loop-lane.lane-index c.args.lanes.now) c.args.repeats.now c.args.orders.now) _ c.args.progress.now c.loop-lane.progress
    (lane_here c.args.lanes.now c.loop-lane.lane-index c.lane-item.result c.args.repeats.now c.args.orders.now c.loop-lane-test.true c.lane-item.is) c.loop-lane.invariant.went in
    let mid = went_more (outside g.K.Disk g.Q.Device g.E.Entropy g.X.Wire)
    c.args.state.now c.loop-lane.state c.args.node (tick_order c.args.lanes.now c.args.repeats.now c.args.orders.now) (repeats_on c.lane-item.result c.args.repeats.now) ((orders_on c.lane-item.result c.args.orders.now) ++ (tick_order (drop (c.loop-lane.lane-index + 1) c.args.lanes.now) c.args.repeats.now c.args.orders.now))
    c.args.progress.now c.loop-lane.progress far c.put_repeats.new.state c.put_repeats.new.progress c.in_ok-put_repeats.ensures.ok in
    record {
      next = may_go (outside g.K.Disk g.Q.Device g.E.Entropy g.X.Wire)
          c.args.state.now c.put_repeats.new.state c.args.node (tick_order c.args.lanes.now c.args.repeats.now c.args.orders.now) (orders_on c.lane-item.result c.args.orders.now) (tick_order (drop (c.loop-lane.lane-index + 1) c.args.lanes.now) c.args.repeats.now c.args.orders.now)
          c.args.progress.now c.put_repeats.new.progress mid c.requires.next;
    }

pub returns-in_err-put_orders-clause-err : goal.returns-in_err-put_orders-clause-err
returns-in_err-put_orders-clause-err g c =
    let far = went_like (outside g.K.Disk g.Q.Device g.E.Entropy g.X.Wire)
    c.args.state.now c.loop-lane.state c.args.node (tick_order c.args.lanes.now c.args.repeats.now c.args.orders.now) (tick_order (drop c.loop-lane.lane-index c.args.lanes.now) c.args.repeats.now c.args.orders.now) _ c.args.progress.now c.loop-lane.progress
    (lane_here c.args.lanes.now c.loop-lane.lane-index c.lane-item.result c.args.repeats.now c.args.orders.now c.loop-lane-test.true c.lane-item.is) c.loop-lane.invariant.went in
    let mid = went_more (outside g.K.Disk g.Q.Device g.E.Entropy g.X.Wire)
    c.args.state.now c.loop-lane.state c.args.node (tick_order c.args.lanes.now c.args.repeats.now c.args.orders.now) (repeats_on c.lane-item.result c.args.repeats.now) ((orders_on c.lane-item.result c.args.orders.now) ++ (tick_order (drop (c.loop-lane.lane-index + 1) c.args.lanes.now) c.args.repeats.now c.args.orders.now))
    c.args.progress.now c.loop-lane.progress far c.put_repeats.new.state c.put_repeats.new.progress c.in_ok-put_repeats.ensures.ok in
    on_err c.from_residual-in_err-put_orders.result (broke_there (outside g.K.Disk g.Q.Device g.E.Entropy g.X.Wire)
    c.args.state.now c.put_repeats.new.state c.args.node (tick_order c.args.lanes.now c.args.repeats.now c.args.orders.now) (orders_on c.lane-item.result c.args.orders.now) (tick_order (drop (c.loop-lane.lane-index + 1) c.args.lanes.now) c.args.repeats.now c.args.orders.now)
    c.args.progress.now c.put_repeats.new.progress mid c.put_orders.new.state c.in_err-put_orders.ensures.err)

pub loop-lane-preserved : goal.loop-lane-preserved
loop-lane-preserved g c =
    let far = went_like (outside g.K.Disk g.Q.Device g.E.Entropy g.X.Wire)
    c.args.state.now c.loop-lane.state c.args.node (tick_order c.args.lanes.now c.args.repeats.now c.args.orders.now) (tick_order (drop c.loop-lane.lane-index c.args.lanes.now) c.args.repeats.now c.args.orders.now) _ c.args.progress.now c.loop-lane.progress
    (lane_here c.args.lanes.now c.loop-lane.lane-index c.lane-item.result c.args.repeats.now c.args.orders.now c.loop-lane-test.true c.lane-item.is) c.loop-lane.invariant.went in
    let mid = went_more (outside g.K.Disk g.Q.Device g.E.Entropy g.X.Wire)
    c.args.state.now c.loop-lane.state c.args.node (tick_order c.args.lanes.now c.args.repeats.now c.args.orders.now) (repeats_on c.lane-item.result c.args.repeats.now) ((orders_on c.lane-item.result c.args.orders.now) ++ (tick_order (drop (c.loop-lane.lane-index + 1) c.args.lanes.now) c.args.repeats.now c.args.orders.now))
    c.args.progress.now c.loop-lane.progress far c.put_repeats.new.state c.put_repeats.new.progress c.in_ok-put_repeats.ensures.ok in
    record {
      site = c.put_orders.ensures.site ∙ c.put_repeats.ensures.site ∙ c.loop-lane.invariant.site;
      posts = c.put_orders.ensures.posts ∙ c.put_repeats.ensures.posts ∙ c.loop-lane.invariant.posts;
      went = went_more (outside g.K.Disk g.Q.Device g.E.Entropy g.X.Wire)
          c.args.state.now c.put_repeats.new.state c.args.node (tick_order c.args.lanes.now c.args.repeats.now c.args.orders.now) (orders_on c.lane-item.result c.args.orders.now) (tick_order (drop (c.loop-lane.lane-index + 1) c.args.lanes.now) c.args.repeats.now c.args.orders.now)
          c.args.progress.now c.put_repeats.new.progress mid c.put_orders.new.state c.put_orders.new.progress c.in_ok-put_orders.ensures.ok;
    }

pub loop-lane-init : goal.loop-lane-init
loop-lane-init g c = record {
  site = refl;
  posts = refl;
  went = went_none (outside g.K.Disk g.Q.Device g.E.Entropy g.X.Wire) _ _ _ _;
}

pub returns-clause-ok : goal.returns-clause-ok
returns-clause-ok g c =
    went_like (outside g.K.Disk g.Q.Device g.E.Entropy g.X.Wire)
    c.args.state.now c.loop-lane.state c.args.node (tick_order c.args.lanes.now c.args.repeats.now c.args.orders.now) (tick_order (drop c.loop-lane.lane-index c.args.lanes.now) c.args.repeats.now c.args.orders.now) [] c.args.progress.now c.loop-lane.progress
    (no_lane c.args.lanes.now c.loop-lane.lane-index c.args.repeats.now c.args.orders.now c.loop-lane-test.false) c.loop-lane.invariant.went
