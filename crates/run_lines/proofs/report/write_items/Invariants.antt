use Rattle.std.proofs.Common.{◌≤◌, [], take}
use Rattle.run_model.specs.Play.{numbered}
use Rattle.run_model.specs.Headline.{Took, given_to, report_pieces}
use Rattle.run_lines.specs.Reporting.{IsItemLine, TookLines}
use Rattle.run_lines.proofs.report.write_items.Given as goal

abbrev pub invariant-loop-item : goal.invariant-loop-item
invariant-loop-item g l = record {
  took : Took (given_to g.W.Sink.taken g.W.Sink.pieces l.fn.sink) (given_to g.W.Sink.taken g.W.Sink.pieces l.sink) (report_pieces l.site.nodes (numbered l.number (take l.item-index l.items)));
  lined : TookLines g.W.Sink.taken g.W.Sink.pieces (IsItemLine l.site.nodes) l.fn.sink l.sink [];
  later : g.W.Sink.faults l.fn.sink ≤ g.W.Sink.faults l.sink;
}
