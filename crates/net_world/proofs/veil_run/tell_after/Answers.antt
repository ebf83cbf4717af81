use Rattle.std.proofs.Common.{List, sym, subst}
use Rattle.run_model.specs.Headline.{given_to}
use Rattle.lane_sender.specs.Lane.{LaneForm}
use Rattle.net_world.specs.Lanes.{AreLanes, veil_line}
use Rattle.net_world.proofs.VeilHeadlines.{are_lanes, at_ok, ends_told}
use Rattle.net_world.proofs.veil_run.tell_after.Goals as goal
use Rattle.world_state.specs.Outside.{outside}

pub tell-requires : goal.tell-requires
tell-requires g c =
    let r = at_ok _ c.args.left.now.ended c.in-Ok.field-0 c.in-Ok.is c.requires.ready in
    record {
      ready = (
        r.0,
        r.1,
        subst (λ (sides : List (LaneForm g.row.X.Denot)). AreLanes g.X.Wire r.0 r.1 sides) (sym c.deref.ensures.value)
            (are_lanes (outside g.K.Disk g.Q.Device g.E.Entropy g.X.Wire)
            c.args.left.now.state r.0 r.1 r.2),
      );
    }

pub returns-in-Ok-clause-ends : goal.returns-in-Ok-clause-ends
returns-in-Ok-clause-ends g c net w h =
    let stands = at_ok _ c.args.left.now.ended c.in-Ok.field-0 c.in-Ok.is h in
    ends_told (given_to g.W.Sink.taken g.W.Sink.pieces) c.args.left.now.ended c.in-Ok.field-0 (veil_line net w) c.args.sink.now c.tell.new.sink c.tell.result c.in-Ok.is
    (c.tell.ensures.told net w
    (subst (λ (sides : List (LaneForm g.row.X.Denot)). AreLanes g.X.Wire net w sides) (sym c.deref.ensures.value)
    (are_lanes (outside g.K.Disk g.Q.Device g.E.Entropy g.X.Wire)
    c.args.left.now.state net w stands)))
