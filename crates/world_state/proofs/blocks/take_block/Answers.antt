use Rattle.std.proofs.Common.{◌≡◌, ap, ◌∙◌}
use Rattle.net_model.specs.Site.{outgoing_lane}
use Rattle.run_ops.specs.Reported.{taken}
use Rattle.world_state.specs.Stands.{place_of}
use Rattle.world_state.proofs.OneSide.{read_at, with_side, one_with}
use Rattle.world_state.proofs.Takes.{lane_is, lane_below, none_done, may_bring, brings_block, took_done, took_rests}
use Rattle.world_state.proofs.blocks.take_block.Goals as goal
use Rattle.world_state.specs.Outside.{outside}

pub take-requires : goal.take-requires
take-requires g c =
    let a = c.requires.ready in
    let h = c.hand-take.ensures.taken a.0 a.1 a.2 in
    let lane = lane_is (outside g.K.Disk g.Q.Device g.E.Entropy g.X.Wire) c.args.state.now a.0 a.1 c.args.node c.args.link a.2 c.requires.fit
    c.hand-take.new.state c.hand-take.new.into (taken c.hand-take.result) h c.outgoing-lane.result c.outgoing-lane.ensures in
    let place : c.lane_place.result ≡ place_of (outgoing_lane a.0.site c.args.node c.args.link) = c.lane_place.ensures ∙ ap place_of lane in
    let below = lane_below (outside g.K.Disk g.Q.Device g.E.Entropy g.X.Wire) c.args.state.now a.0 a.1 c.args.node c.args.link a.2 c.requires.fit
    c.hand-take.new.state c.hand-take.new.into (taken c.hand-take.result) h in
    let there = read_at c.hand-take.new.state.lanes.items c.lane_place.result (place_of (outgoing_lane a.0.site c.args.node c.args.link)) c.index_mut.result.now place below c.index_mut.ensures.value in
    record {
      asked = (
        a.0,
        a.1,
        may_bring (outside g.K.Disk g.Q.Device g.E.Entropy g.X.Wire) c.args.state.now a.0 a.1 c.args.node c.args.link a.2 c.requires.fit
            c.hand-take.new.state c.hand-take.new.into (taken c.hand-take.result) h c.in-Some.number c.in-Some.ensures c.index_mut.result.now there,
      );
    }

pub returns-in-None-clause-done : goal.returns-in-None-clause-done
returns-in-None-clause-done g c net w ready =
    let h = c.hand-take.ensures.taken net w ready in
    none_done (outside g.K.Disk g.Q.Device g.E.Entropy g.X.Wire) c.args.state.now net w c.args.node c.args.link ready c.requires.fit
    c.hand-take.new.state c.hand-take.new.into (taken c.hand-take.result) h c.in-None.ensures

pub returns-in-Err-clause-left : goal.returns-in-Err-clause-left
returns-in-Err-clause-left g c net w ready =
    let h = c.hand-take.ensures.taken net w ready in
    let lane = lane_is (outside g.K.Disk g.Q.Device g.E.Entropy g.X.Wire) c.args.state.now net w c.args.node c.args.link ready c.requires.fit
    c.hand-take.new.state c.hand-take.new.into (taken c.hand-take.result) h c.outgoing-lane.result c.outgoing-lane.ensures in
    let place : c.lane_place.result ≡ place_of (outgoing_lane net.site c.args.node c.args.link) = c.lane_place.ensures ∙ ap place_of lane in
    let below = lane_below (outside g.K.Disk g.Q.Device g.E.Entropy g.X.Wire) c.args.state.now net w c.args.node c.args.link ready c.requires.fit
    c.hand-take.new.state c.hand-take.new.into (taken c.hand-take.result) h in
    let there = read_at c.hand-take.new.state.lanes.items c.lane_place.result (place_of (outgoing_lane net.site c.args.node c.args.link)) c.index_mut.result.now place below c.index_mut.ensures.value in
    let may = may_bring (outside g.K.Disk g.Q.Device g.E.Entropy g.X.Wire) c.args.state.now net w c.args.node c.args.link ready c.requires.fit
    c.hand-take.new.state c.hand-take.new.into (taken c.hand-take.result) h c.in-Some.number c.in-Some.ensures c.index_mut.result.now there in
    let brings = brings_block (outside g.K.Disk g.Q.Device g.E.Entropy g.X.Wire) c.args.state.now net w c.args.node c.args.link ready c.requires.fit
    c.hand-take.new.state c.hand-take.new.into (taken c.hand-take.result) h c.in-Some.number c.in-Some.ensures c.index_mut.result.now there in
    let one = one_with c.hand-take.new.state (outgoing_lane net.site c.args.node c.args.link) c.lane_place.result c.index_mut.result.now c.take.new.side place below c.index_mut.ensures.value in
    took_rests (outside g.K.Disk g.Q.Device g.E.Entropy g.X.Wire) c.args.state.now net w c.args.node c.args.link ready c.requires.fit
    c.hand-take.new.state c.hand-take.new.into (taken c.hand-take.result) h c.in-Some.number c.in-Some.ensures c.index_mut.result.now there
    (with_side c.hand-take.new.state c.lane_place.result c.take.new.side) c.take.new.side one c.take.ensures.kept (c.take.ensures.wire net w _ may brings)

pub returns-in-Ok-clause-done : goal.returns-in-Ok-clause-done
returns-in-Ok-clause-done g c net w ready =
    let h = c.hand-take.ensures.taken net w ready in
    let lane = lane_is (outside g.K.Disk g.Q.Device g.E.Entropy g.X.Wire) c.args.state.now net w c.args.node c.args.link ready c.requires.fit
    c.hand-take.new.state c.hand-take.new.into (taken c.hand-take.result) h c.outgoing-lane.result c.outgoing-lane.ensures in
    let place : c.lane_place.result ≡ place_of (outgoing_lane net.site c.args.node c.args.link) = c.lane_place.ensures ∙ ap place_of lane in
    let below = lane_below (outside g.K.Disk g.Q.Device g.E.Entropy g.X.Wire) c.args.state.now net w c.args.node c.args.link ready c.requires.fit
    c.hand-take.new.state c.hand-take.new.into (taken c.hand-take.result) h in
    let there = read_at c.hand-take.new.state.lanes.items c.lane_place.result (place_of (outgoing_lane net.site c.args.node c.args.link)) c.index_mut.result.now place below c.index_mut.ensures.value in
    let may = may_bring (outside g.K.Disk g.Q.Device g.E.Entropy g.X.Wire) c.args.state.now net w c.args.node c.args.link ready c.requires.fit
    c.hand-take.new.state c.hand-take.new.into (taken c.hand-take.result) h c.in-Some.number c.in-Some.ensures c.index_mut.result.now there in
    let brings = brings_block (outside g.K.Disk g.Q.Device g.E.Entropy g.X.Wire) c.args.state.now net w c.args.node c.args.link ready c.requires.fit
    c.hand-take.new.state c.hand-take.new.into (taken c.hand-take.result) h c.in-Some.number c.in-Some.ensures c.index_mut.result.now there in
    let one = one_with c.hand-take.new.state (outgoing_lane net.site c.args.node c.args.link) c.lane_place.result c.index_mut.result.now c.take.new.side place below c.index_mut.ensures.value in
    took_done (outside g.K.Disk g.Q.Device g.E.Entropy g.X.Wire) c.args.state.now net w c.args.node c.args.link ready c.requires.fit
    c.hand-take.new.state c.hand-take.new.into (taken c.hand-take.result) h c.in-Some.number c.in-Some.ensures c.index_mut.result.now there
    (with_side c.hand-take.new.state c.lane_place.result c.take.new.side) c.take.new.side one c.take.ensures.kept (c.in-Ok.ensures.ok net w _ may brings)
