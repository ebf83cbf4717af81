use Rattle.std.proofs.Common.{◌≡◌, ap, ◌∙◌}
use Rattle.std.specs.Prelude.{is_some}
use Rattle.qkd_base.specs.declared.lane.Lane.{Lane}
use Rattle.world_nodes.specs.Tampering.{put_as}
use Rattle.world_state.proofs.Passing.{side_stands, itself}
use Rattle.world_state.proofs.wire_search.is_put.Goals as goal
use Rattle.world_state.specs.Outside.{outside}

pub any_has-requires : goal.any_has-requires
any_has-requires g c =
    let a = c.requires.ready in
    let s = side_stands (outside g.K.Disk g.Q.Device g.E.Entropy g.X.Wire) c.args.state.now a.0 a.1 c.args.lane.now a.2
    c.lane_place.result c.in-Some.side.now c.requires.lane c.lane_place.ensures c.in-Some.ensures in
    let own = itself g.X.Wire a.0 a.1 c.args.lane.now c.in-Some.side.now s in
    record { ready = (a.0, a.1, a.2.running, own) }

pub returns-in-Some : goal.returns-in-Some
returns-in-Some g c net w stands =
    let s = side_stands (outside g.K.Disk g.Q.Device g.E.Entropy g.X.Wire) c.args.state.now net w c.args.lane.now stands
    c.lane_place.result c.in-Some.side.now c.requires.lane c.lane_place.ensures c.in-Some.ensures in
    let own = itself g.X.Wire net w c.args.lane.now c.in-Some.side.now s in
    let found : c.any_has.result ≡ is_some (put_as net w c.in-Some.side.now.lane c.args.octets.now) = c.any_has.ensures net w stands.running own in
    found ∙ ap (λ (k : Lane). is_some (put_as net w k c.args.octets.now)) s.lane
