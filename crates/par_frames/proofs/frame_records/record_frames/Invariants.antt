use Rattle.std.proofs.Common.{◌≡◌, true, take, drop}
use Rattle.declared_site.specs.SiteOf.{site_of}
use Rattle.par_frames.specs.Adding.{IsEmpty}
use Rattle.par_frames.proofs.Records.{InLane}
use Rattle.par_frames.proofs.NoteRising.{Rises}
use Rattle.par_frames.proofs.frame_records.record_frames.Given as goal

abbrev pub invariant-loop-frame : goal.invariant-loop-frame
invariant-loop-frame l = record {
  whole : l.log.is_whole ≡ true → l.fn.log.is_whole ≡ true;
  rises : Rises l.place (drop l.frame-index l.fn.frames);
  recorded : l.log.is_whole ≡ true → IsEmpty (site_of l.fn.site).nodes l.fn.log → InLane (site_of l.fn.site) (take l.frame-index l.fn.frames) l.place l.log;
}
