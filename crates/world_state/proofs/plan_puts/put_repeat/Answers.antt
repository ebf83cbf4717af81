use Rattle.world_state.specs.Stands.{place_of}
use Rattle.world_state.proofs.OneSide.{read_at, place_within, with_side, one_with}
use Rattle.world_state.proofs.Endings.{ok_both, on_err}
use Rattle.world_state.proofs.Repeating.{lane_there, may_repeat, repeat_puts_on, repeat_breaks}
use Rattle.world_state.proofs.plan_puts.put_repeat.Goals as goal
use Rattle.world_state.specs.Outside.{outside}

pub again-sent-requires : goal.again-sent-requires
again-sent-requires g c =
    let a = c.requires.next in
    let h = a.3 in
    let at = lane_there (outside g.K.Disk g.Q.Device g.E.Entropy g.X.Wire) a.0 a.1 c.args.node c.args.repeat.now a.2
    c.args.state.now c.args.progress.now.placings h in
    let there = read_at c.args.state.now.lanes.items c.lane_place.result (place_of c.args.repeat.now.lane) c.index_mut.result.now c.lane_place.ensures
    (place_within a.0.site c.args.repeat.now.lane _ at h.stands.sides) c.index_mut.ensures.value in
    record {
      asked = (
        a.0,
        a.1,
        may_repeat (outside g.K.Disk g.Q.Device g.E.Entropy g.X.Wire) a.0 a.1 c.args.node c.args.repeat.now a.2
            c.args.state.now c.args.progress.now.placings h c.index_mut.result.now there,
      );
    }

pub returns-clause-ok : goal.returns-clause-ok
returns-clause-ok g c =
    ok_both c.add.result (λ items noted net w es h.
    let at = lane_there (outside g.K.Disk g.Q.Device g.E.Entropy g.X.Wire) net w c.args.node c.args.repeat.now es
    c.args.state.now c.args.progress.now.placings h in
    let below = place_within net.site c.args.repeat.now.lane _ at h.stands.sides in
    let there = read_at c.args.state.now.lanes.items c.lane_place.result (place_of c.args.repeat.now.lane) c.index_mut.result.now c.lane_place.ensures below c.index_mut.ensures.value in
    let one = one_with c.args.state.now c.args.repeat.now.lane c.lane_place.result c.index_mut.result.now c.again-sent.new.side c.lane_place.ensures below c.index_mut.ensures.value in
    let may = may_repeat (outside g.K.Disk g.Q.Device g.E.Entropy g.X.Wire) net w c.args.node c.args.repeat.now es
    c.args.state.now c.args.progress.now.placings h c.index_mut.result.now there in
    repeat_puts_on (outside g.K.Disk g.Q.Device g.E.Entropy g.X.Wire) net w c.args.node c.args.repeat.now es
    c.args.state.now c.args.progress.now.placings h
    (with_side c.args.state.now c.lane_place.result c.again-sent.new.side) c.index_mut.result.now c.again-sent.new.side one c.again-sent.result (c.again-sent.ensures.repeated net w may)
    c.again-sent.ensures.cause c.again-sent.ensures.calm c.put_item-item.result c.saturating_sub-size.result _ c.put_item-item.ensures c.saturating_sub-size.ensures c.answer.ensures
    c.repeat_placing.result c.repeat_placing.ensures c.args.progress.now.items c.add.new.progress.items c.add.new.progress.placings items noted)
    c.add.ensures.items c.add.ensures.placings

pub returns-clause-err : goal.returns-clause-err
returns-clause-err g c =
    on_err c.add.result (λ net w es h.
    let at = lane_there (outside g.K.Disk g.Q.Device g.E.Entropy g.X.Wire) net w c.args.node c.args.repeat.now es
    c.args.state.now c.args.progress.now.placings h in
    let below = place_within net.site c.args.repeat.now.lane _ at h.stands.sides in
    let there = read_at c.args.state.now.lanes.items c.lane_place.result (place_of c.args.repeat.now.lane) c.index_mut.result.now c.lane_place.ensures below c.index_mut.ensures.value in
    let one = one_with c.args.state.now c.args.repeat.now.lane c.lane_place.result c.index_mut.result.now c.again-sent.new.side c.lane_place.ensures below c.index_mut.ensures.value in
    let may = may_repeat (outside g.K.Disk g.Q.Device g.E.Entropy g.X.Wire) net w c.args.node c.args.repeat.now es
    c.args.state.now c.args.progress.now.placings h c.index_mut.result.now there in
    repeat_breaks (outside g.K.Disk g.Q.Device g.E.Entropy g.X.Wire) net w c.args.node c.args.repeat.now es
    c.args.state.now c.args.progress.now.placings h
    (with_side c.args.state.now c.lane_place.result c.again-sent.new.side) c.index_mut.result.now c.again-sent.new.side one c.again-sent.result (c.again-sent.ensures.repeated net w may)
    c.again-sent.ensures.cause c.again-sent.ensures.calm c.put_item-item.result c.saturating_sub-size.result _ c.put_item-item.ensures c.saturating_sub-size.ensures c.answer.ensures)
