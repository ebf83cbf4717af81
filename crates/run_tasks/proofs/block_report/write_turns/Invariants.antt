use Rattle.std.proofs.Common.{◌≡◌, ◌≤◌, length, []}
use Rattle.std.specs.Vec.Iter.{into_iter_items, into_iter_len}
use Rattle.run_model.specs.Turn.{HttpTexts}
use Rattle.run_model.specs.Headline.{given_to}
use Rattle.run_tasks.specs.Reported.{turns_told}
use Rattle.run_tasks.proofs.Writes.{IsTold}
use Rattle.run_lines.specs.Reporting.{IsItemLine, TookLines}
use Rattle.run_tasks.proofs.block_report.write_turns.Given as goal

abbrev pub invariant-loop-turned : goal.invariant-loop-turned
invariant-loop-turned g l =
    let left = into_iter_items l.turned-iterator in
    record {
      long : into_iter_len l.turned-iterator ≡ length left;
      told : (http : HttpTexts) → g.H.Requests.speaks l.requests http →
          IsTold l.site.nodes (given_to g.W.Sink.taken g.W.Sink.pieces l.fn.sink) (given_to g.W.Sink.taken g.W.Sink.pieces l.sink) (turns_told http l.jobs l.places (into_iter_items l.initial.turned-iterator)) (turns_told http l.jobs l.places left);
      lined : TookLines g.W.Sink.taken g.W.Sink.pieces (IsItemLine l.site.nodes) l.fn.sink l.sink [];
      later : g.W.Sink.faults l.fn.sink ≤ g.W.Sink.faults l.sink;
    }
