use Rattle.std.proofs.Common.{◌≤◌, drop, map, []}
use Rattle.run_model.specs.Headline.{given_to}
use Rattle.run_tasks.specs.Prepared.{told_item}
use Rattle.run_tasks.proofs.Writes.{IsTold}
use Rattle.run_lines.specs.Reporting.{IsItemLine, TookLines}
use Rattle.run_tasks.proofs.block_report.write_told.Given as goal

abbrev pub invariant-loop-each : goal.invariant-loop-each
invariant-loop-each g l = record {
  told : IsTold l.site.nodes (given_to g.W.Sink.taken g.W.Sink.pieces l.fn.sink) (given_to g.W.Sink.taken g.W.Sink.pieces l.sink) (map told_item l.told) (map told_item (drop l.each-index l.told));
  lined : TookLines g.W.Sink.taken g.W.Sink.pieces (IsItemLine l.site.nodes) l.fn.sink l.sink [];
  later : g.W.Sink.faults l.fn.sink ≤ g.W.Sink.faults l.sink;
}
