use Rattle.declared_site.specs.SiteOf.{site_of}
use Rattle.run_lines.proofs.AllLanes.{lane_there}
use Rattle.run_lines.proofs.settle_rounds.count_frames.Goals as goal

pub on_wire-count-requires : goal.on_wire-count-requires
on_wire-count-requires g c =
    lane_there (site_of (g.S.Acts.site c.args.net.now)) c.args.lanes.now c.loop-lane.lane-index c.lane-item.result _ c.requires c.loop-lane-test.true c.lane-item.is
