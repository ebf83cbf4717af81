use Rattle.world_state.specs.Stands.{place_of}
use Rattle.world_state.proofs.OneSide.{read_at, place_within, with_side, one_with}
use Rattle.world_state.proofs.Endings.{ok_both, on_err}
use Rattle.world_state.proofs.Emitting.{may_emit, order_puts_on, order_breaks}
use Rattle.world_state.proofs.Formed.{order_formed}
use Rattle.world_state.proofs.plan_puts.put_order.Goals as goal
use Rattle.world_state.specs.Outside.{outside}

pub spelled_len-size-requires : goal.spelled_len-size-requires
spelled_len-size-requires g c =
    let a = c.requires.next in
    order_formed (outside g.K.Disk g.Q.Device g.E.Entropy g.X.Wire) a.0 a.1 c.args.node c.args.order.now a.2 c.args.state.now
    c.args.progress.now.placings a.3

pub emit-sent-requires : goal.emit-sent-requires
emit-sent-requires g c =
    let a = c.requires.next in
    let h = a.3 in
    let there = read_at c.args.state.now.lanes.items c.lane_place.result (place_of c.args.order.now.lane) c.index_mut.result.now c.lane_place.ensures
    (place_within a.0.site c.args.order.now.lane _ h.sends.each.0.site h.stands.sides) c.index_mut.ensures.value in
    record {
      asked = (
        a.0,
        a.1,
        may_emit (outside g.K.Disk g.Q.Device g.E.Entropy g.X.Wire) a.0 a.1 c.args.node c.args.order.now a.2
            c.args.state.now c.args.progress.now.placings h c.index_mut.result.now there c.lease-end.result
            (c.lease-end.ensures a.0 a.1 h.stands h.up h.sends.each.0.site h.sends.each.0.lane),
      );
    }

pub returns-clause-ok : goal.returns-clause-ok
returns-clause-ok g c =
    ok_both c.add.result (λ items noted net w es h.
    let there = read_at c.args.state.now.lanes.items c.lane_place.result (place_of c.args.order.now.lane) c.index_mut.result.now c.lane_place.ensures
    (place_within net.site c.args.order.now.lane _ h.sends.each.0.site h.stands.sides) c.index_mut.ensures.value in
    let one = one_with c.args.state.now c.args.order.now.lane c.lane_place.result c.index_mut.result.now c.emit-sent.new.side c.lane_place.ensures
    (place_within net.site c.args.order.now.lane _ h.sends.each.0.site h.stands.sides) c.index_mut.ensures.value in
    let may = may_emit (outside g.K.Disk g.Q.Device g.E.Entropy g.X.Wire) net w c.args.node c.args.order.now es
    c.args.state.now c.args.progress.now.placings h c.index_mut.result.now there c.lease-end.result
    (c.lease-end.ensures net w h.stands h.up h.sends.each.0.site h.sends.each.0.lane) in
    order_puts_on (outside g.K.Disk g.Q.Device g.E.Entropy g.X.Wire) net w c.args.node c.args.order.now es
    c.args.state.now c.args.progress.now.placings h
    (with_side c.args.state.now c.lane_place.result c.emit-sent.new.side) c.index_mut.result.now c.emit-sent.new.side one c.emit-sent.result (c.emit-sent.ensures.emitted net w may) c.emit-sent.ensures.cause c.emit-sent.ensures.calm
    c.put_item-item.result c.offset.result c.spelled_len-size.result _ c.put_item-item.ensures c.offset.ensures c.spelled_len-size.ensures.length c.answer.ensures
    c.order_placing.result c.order_placing.ensures c.args.progress.now.items c.add.new.progress.items c.add.new.progress.placings items noted)
    c.add.ensures.items c.add.ensures.placings

pub returns-clause-err : goal.returns-clause-err
returns-clause-err g c =
    on_err c.add.result (λ net w es h.
    let there = read_at c.args.state.now.lanes.items c.lane_place.result (place_of c.args.order.now.lane) c.index_mut.result.now c.lane_place.ensures
    (place_within net.site c.args.order.now.lane _ h.sends.each.0.site h.stands.sides) c.index_mut.ensures.value in
    let one = one_with c.args.state.now c.args.order.now.lane c.lane_place.result c.index_mut.result.now c.emit-sent.new.side c.lane_place.ensures
    (place_within net.site c.args.order.now.lane _ h.sends.each.0.site h.stands.sides) c.index_mut.ensures.value in
    let may = may_emit (outside g.K.Disk g.Q.Device g.E.Entropy g.X.Wire) net w c.args.node c.args.order.now es
    c.args.state.now c.args.progress.now.placings h c.index_mut.result.now there c.lease-end.result
    (c.lease-end.ensures net w h.stands h.up h.sends.each.0.site h.sends.each.0.lane) in
    order_breaks (outside g.K.Disk g.Q.Device g.E.Entropy g.X.Wire) net w c.args.node c.args.order.now es
    c.args.state.now c.args.progress.now.placings h
    (with_side c.args.state.now c.lane_place.result c.emit-sent.new.side) c.index_mut.result.now c.emit-sent.new.side one c.emit-sent.result (c.emit-sent.ensures.emitted net w may) c.emit-sent.ensures.cause c.emit-sent.ensures.calm
    c.put_item-item.result c.offset.result c.spelled_len-size.result _ c.put_item-item.ensures c.offset.ensures c.spelled_len-size.ensures.length c.answer.ensures)
