use Rattle.declared_site.specs.SiteOf.{site_of}
use Rattle.par_frames.proofs.Records.{nothing_yet}
use Rattle.par_frames.proofs.Recorded.{others_rise, one_recorded, frames_recorded}
use Rattle.par_frames.proofs.NoteRising.{rises}
use Rattle.par_frames.proofs.frame_records.record_frames.Goals as goal

pub loop-frame-init : goal.loop-frame-init
loop-frame-init c = record {
  whole = λ h. h;
  rises = rises c.args.frames.now c.requires.order;
  recorded = λ is e. nothing_yet (site_of c.args.site.now) c.args.log.now e;
}

pub loop-frame-preserved : goal.loop-frame-preserved
loop-frame-preserved c =
    let frames = c.args.frames.now in
    let i = c.loop-frame.frame-index in
    let e = c.frame-item.result in
    record {
      whole = λ h. c.loop-frame.invariant.whole (c.go_on.ensures.whole (c.record_frame.ensures.whole h));
      rises = others_rise frames i e c.loop-frame-test.true c.frame-item.is c.loop-frame.place c.lane_place-next.result c.lane_place-next.ensures c.loop-frame.invariant.rises;
      recorded = λ is empty.
          let mid = c.record_frame.ensures.whole is in
          one_recorded frames i e c.loop-frame-test.true c.frame-item.is c.loop-frame.place c.lane_place-next.result c.lane_place-next.ensures c.loop-frame.invariant.rises
          (site_of c.args.site.now) c.loop-frame.log c.go_on.new.log c.record_frame.new.log (c.loop-frame.invariant.recorded (c.go_on.ensures.whole mid) empty)
          c.go_on.ensures.same (λ t. c.go_on.ensures.ended t mid) (c.record_frame.ensures.added is);
    }

pub returns-clause-recorded : goal.returns-clause-recorded
returns-clause-recorded c is empty =
    frames_recorded (site_of c.args.site.now) c.args.frames.now c.loop-frame.frame-index c.loop-frame.place c.loop-frame.log c.end_lane.new.self c.loop-frame-test.false c.requires.lanes
    (c.loop-frame.invariant.recorded (c.end_lane.ensures.whole is) empty) (c.end_lane.ensures.ended is)
