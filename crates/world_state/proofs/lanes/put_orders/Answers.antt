use Rattle.std.proofs.Common.{◌∙◌, ◌+◌, sym, refl, ap, drop, [], ◌∷◌}
use Rattle.net_model.specs.Tick.{New}
use Rattle.world_state.specs.Sending.{orders_on}
use Rattle.world_state.specs.declared.state.State.{State}
use Rattle.world_state.proofs.Drops.{drop_all, order_here, order_elsewhere}
use Rattle.world_state.proofs.Endings.{on_err}
use Rattle.world_state.proofs.Goings.{went_none, may_go, went_more, broke_there, went_like, went_as}
use Rattle.world_state.proofs.lanes.put_orders.Goals as goal
use Rattle.world_state.proofs.lanes.put_orders.Goals.{then-is_same+in_ok-put_order, else-is_same}
use Rattle.world_state.specs.Outside.{outside}

pub put_order-requires : goal.put_order-requires
put_order-requires g c =
    let far = went_like (outside g.K.Disk g.Q.Device g.E.Entropy g.X.Wire)
    c.args.state.now c.loop-order.state c.args.node (orders_on c.args.lane c.args.orders.now) (orders_on c.args.lane (drop c.loop-order.order-index c.args.orders.now)) _ c.args.progress.now c.loop-order.progress
    (order_here c.args.lane c.args.orders.now c.loop-order.order-index c.order-item.result c.loop-order-test.true c.order-item.is (sym c.is_same.ensures ∙ c.if-is_same.true)) c.loop-order.invariant.went in
    let may = may_go (outside g.K.Disk g.Q.Device g.E.Entropy g.X.Wire)
    c.args.state.now c.loop-order.state c.args.node (orders_on c.args.lane c.args.orders.now) (New c.order-item.result ∷ []) (orders_on c.args.lane (drop (c.loop-order.order-index + 1) c.args.orders.now))
    c.args.progress.now c.loop-order.progress far c.requires.next in
    record { next = may }

pub returns-in_err-put_order-clause-err : goal.returns-in_err-put_order-clause-err
returns-in_err-put_order-clause-err g c =
    let far = went_like (outside g.K.Disk g.Q.Device g.E.Entropy g.X.Wire)
    c.args.state.now c.loop-order.state c.args.node (orders_on c.args.lane c.args.orders.now) (orders_on c.args.lane (drop c.loop-order.order-index c.args.orders.now)) _ c.args.progress.now c.loop-order.progress
    (order_here c.args.lane c.args.orders.now c.loop-order.order-index c.order-item.result c.loop-order-test.true c.order-item.is (sym c.is_same.ensures ∙ c.if-is_same.true)) c.loop-order.invariant.went in
    on_err c.from_residual.result (broke_there (outside g.K.Disk g.Q.Device g.E.Entropy g.X.Wire)
    c.args.state.now c.loop-order.state c.args.node (orders_on c.args.lane c.args.orders.now) (New c.order-item.result ∷ []) (orders_on c.args.lane (drop (c.loop-order.order-index + 1) c.args.orders.now))
    c.args.progress.now c.loop-order.progress far c.put_order.new.state c.in_err-put_order.ensures.err)

pub loop-order-preserved : goal.loop-order-preserved
loop-order-preserved g c = elim c.if-is_same.branch [
  | then-is_same+in_ok-put_order b ↦
      let far = went_like (outside g.K.Disk g.Q.Device g.E.Entropy g.X.Wire)
      c.args.state.now c.loop-order.state c.args.node (orders_on c.args.lane c.args.orders.now) (orders_on c.args.lane (drop c.loop-order.order-index c.args.orders.now)) _ c.args.progress.now c.loop-order.progress
      (order_here c.args.lane c.args.orders.now c.loop-order.order-index c.order-item.result c.loop-order-test.true c.order-item.is (sym c.is_same.ensures ∙ b.if-is_same.true)) c.loop-order.invariant.went in
      record {
        site = ap (λ (s : State _ _ _ _). s.site) b.state-is ∙ b.put_order.ensures.site ∙ c.loop-order.invariant.site;
        posts = ap (λ (s : State _ _ _ _). s.posts.items) b.state-is ∙ b.put_order.ensures.posts ∙ c.loop-order.invariant.posts;
        went = went_as (outside g.K.Disk g.Q.Device g.E.Entropy g.X.Wire)
            c.args.state.now b.put_order.new.state c.if-is_same.state c.args.node (orders_on c.args.lane c.args.orders.now) (orders_on c.args.lane (drop (c.loop-order.order-index + 1) c.args.orders.now)) c.args.progress.now b.put_order.new.progress c.if-is_same.progress b.state-is b.progress-is
            (went_more (outside g.K.Disk g.Q.Device g.E.Entropy g.X.Wire)
            c.args.state.now c.loop-order.state c.args.node (orders_on c.args.lane c.args.orders.now) (New c.order-item.result ∷ []) (orders_on c.args.lane (drop (c.loop-order.order-index + 1) c.args.orders.now))
            c.args.progress.now c.loop-order.progress far b.put_order.new.state b.put_order.new.progress b.in_ok-put_order.ensures.ok);
      }
  | else-is_same b ↦
      record {
        site = ap (λ (s : State _ _ _ _). s.site) b.state-is ∙ c.loop-order.invariant.site;
        posts = ap (λ (s : State _ _ _ _). s.posts.items) b.state-is ∙ c.loop-order.invariant.posts;
        went = went_as (outside g.K.Disk g.Q.Device g.E.Entropy g.X.Wire)
            c.args.state.now c.loop-order.state c.if-is_same.state c.args.node (orders_on c.args.lane c.args.orders.now) (orders_on c.args.lane (drop (c.loop-order.order-index + 1) c.args.orders.now)) c.args.progress.now c.loop-order.progress c.if-is_same.progress b.state-is b.progress-is
            (went_like (outside g.K.Disk g.Q.Device g.E.Entropy g.X.Wire)
            c.args.state.now c.loop-order.state c.args.node (orders_on c.args.lane c.args.orders.now) (orders_on c.args.lane (drop c.loop-order.order-index c.args.orders.now)) _ c.args.progress.now c.loop-order.progress
            (order_elsewhere c.args.lane c.args.orders.now c.loop-order.order-index c.order-item.result c.loop-order-test.true c.order-item.is (sym c.is_same.ensures ∙ b.if-is_same.false)) c.loop-order.invariant.went);
      }
]

pub loop-order-init : goal.loop-order-init
loop-order-init g c = record {
  site = refl;
  posts = refl;
  went = went_none (outside g.K.Disk g.Q.Device g.E.Entropy g.X.Wire) _ _ _ _;
}

pub returns-clause-ok : goal.returns-clause-ok
returns-clause-ok g c =
    went_like (outside g.K.Disk g.Q.Device g.E.Entropy g.X.Wire)
    c.args.state.now c.loop-order.state c.args.node (orders_on c.args.lane c.args.orders.now) (orders_on c.args.lane (drop c.loop-order.order-index c.args.orders.now)) [] c.args.progress.now c.loop-order.progress
    (ap (orders_on c.args.lane) (drop_all c.args.orders.now c.loop-order.order-index c.loop-order-test.false)) c.loop-order.invariant.went
