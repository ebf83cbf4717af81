use Rattle.std.proofs.Common.{◌≡◌, ◌≤◌, [], take}
use Rattle.asked_lines.specs.Telling.{TookAsked}
use Rattle.asked_lines.proofs.asked_report.write_asked.Given as goal

abbrev pub invariant-loop-line : goal.invariant-loop-line
invariant-loop-line g l = record {
  told : TookAsked g.W.Sink.taken g.W.Sink.pieces l.nodes (take l.line-index l.lines) l.fn.sink l.sink;
  none : l.lines ≡ [] → l.sink ≡ l.fn.sink;
  later : g.W.Sink.faults l.fn.sink ≤ g.W.Sink.faults l.sink;
}
