use Rattle.std.proofs.Common.{◌≤◌, drop, []}
use Rattle.run_model.specs.Headline.{given_to}
use Rattle.run_tasks.specs.Reported.{frames_told}
use Rattle.run_tasks.proofs.Writes.{IsTold}
use Rattle.run_lines.specs.Reporting.{IsItemLine, TookLines}
use Rattle.run_tasks.proofs.block_report.write_frames.Given as goal

abbrev pub invariant-loop-frame : goal.invariant-loop-frame
invariant-loop-frame g l = record {
  told : IsTold l.site.nodes (given_to g.W.Sink.taken g.W.Sink.pieces l.fn.sink) (given_to g.W.Sink.taken g.W.Sink.pieces l.sink) (frames_told l.places l.frames) (frames_told l.places (drop l.frame-index l.frames));
  lined : TookLines g.W.Sink.taken g.W.Sink.pieces (IsItemLine l.site.nodes) l.fn.sink l.sink [];
  later : g.W.Sink.faults l.fn.sink ≤ g.W.Sink.faults l.sink;
}
