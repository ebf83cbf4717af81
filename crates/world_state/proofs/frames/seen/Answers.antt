use Rattle.world_state.proofs.Passing.{side_stands, itself, short_of, on_wire_as, none_as}
use Rattle.world_state.proofs.frames.seen.Goals as goal
use Rattle.world_state.specs.Outside.{outside}

pub shared_ref_as_front-from_slice : goal.shared_ref_as_front-from_slice
shared_ref_as_front-from_slice g c =
    let a = c.requires.ready in
    let s = side_stands (outside g.K.Disk g.Q.Device g.E.Entropy g.X.Wire) c.args.state.now a.0 a.1 c.args.lane.now a.2
    c.lane_place.result c.in-Some.side.now c.requires.lane c.lane_place.ensures c.in-Some.ensures in
    let own = itself g.X.Wire a.0 a.1 c.args.lane.now c.in-Some.side.now s in
    (c.in-Some-frame.ensures.frame a.0 a.1 a.2.running own).0

pub returns-in-None-frame-clause-found : goal.returns-in-None-frame-clause-found
returns-in-None-frame-clause-found g c net w stands =
    let s = side_stands (outside g.K.Disk g.Q.Device g.E.Entropy g.X.Wire) c.args.state.now net w c.args.lane.now stands
    c.lane_place.result c.in-Some.side.now c.requires.lane c.lane_place.ensures c.in-Some.ensures in
    let own = itself g.X.Wire net w c.args.lane.now c.in-Some.side.now s in
    none_as g.X.Wire net w c.args.lane.now c.in-Some.side.now s c.args.number (c.in-None-frame.ensures.frame net w stands.running own).0

pub returns-in_ok-octets-in-Some-frame-clause-found : goal.returns-in_ok-octets-in-Some-frame-clause-found
returns-in_ok-octets-in-Some-frame-clause-found g c net w stands =
    let s = side_stands (outside g.K.Disk g.Q.Device g.E.Entropy g.X.Wire) c.args.state.now net w c.args.lane.now stands
    c.lane_place.result c.in-Some.side.now c.requires.lane c.lane_place.ensures c.in-Some.ensures in
    let own = itself g.X.Wire net w c.args.lane.now c.in-Some.side.now s in
    on_wire_as g.X.Wire net w c.args.lane.now c.in-Some.side.now s c.args.number c.in-Some-frame.length c.frame.new.into.octets
    c.in_ok-octets-in-Some-frame.octets (c.in-Some-frame.ensures.frame net w stands.running own).1 c.in_ok-octets-in-Some-frame.ensures

pub returns-in_ok-octets-in-Some-frame-clause-short : goal.returns-in_ok-octets-in-Some-frame-clause-short
returns-in_ok-octets-in-Some-frame-clause-short g c =
    let a = c.requires.ready in
    let s = side_stands (outside g.K.Disk g.Q.Device g.E.Entropy g.X.Wire) c.args.state.now a.0 a.1 c.args.lane.now a.2
    c.lane_place.result c.in-Some.side.now c.requires.lane c.lane_place.ensures c.in-Some.ensures in
    let own = itself g.X.Wire a.0 a.1 c.args.lane.now c.in-Some.side.now s in
    short_of c.in-Some-frame.length c.frame.new.into.octets c.in_ok-octets-in-Some-frame.octets (c.in-Some-frame.ensures.frame a.0 a.1 a.2.running own).0
    c.in_ok-octets-in-Some-frame.ensures
