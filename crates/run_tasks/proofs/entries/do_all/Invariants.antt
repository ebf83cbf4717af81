use Rattle.std.proofs.Common.{◌≡◌, ◌≤◌, ◌+◌, ◌^◌, length, map, []}
use Rattle.std.specs.Prelude.{count_by}
use Rattle.net_model.specs.World.{Network, World}
use Rattle.run_model.specs.Report.{Does}
use Rattle.run_ops.specs.Acting.{IsReady}
use Rattle.run_tasks.proofs.Tasking.{DidSo}
use Rattle.std.specs.List.{All}
use Rattle.std.specs.Vec.Iter.{into_iter_items, into_iter_len}
use Rattle.run_model.specs.Turn.{HttpTexts}
use Rattle.run_model.specs.Headline.{given_to}
use Rattle.run_ops.specs.Runnable.{IsEntryFor, arms_a_disk}
use Rattle.run_lines.specs.Running.{IsReadySomewhere}
use Rattle.run_lines.specs.Reporting.{IsItemLine, TookLines}
use Rattle.run_tasks.proofs.entries.do_all.Given as goal

abbrev pub invariant-loop-entry : goal.invariant-loop-entry
invariant-loop-entry g l =
    let sited = g.S.Acts.site l.fn.net in
    let left = into_iter_items l.entry-iterator in
    record {
      site : g.S.Acts.site l.net ≡ sited;
      long : into_iter_len l.entry-iterator ≡ length left;
      few : g.S.Acts.armed l.net + count_by arms_a_disk left ≤ 2 ^ 32;
      fit : All (IsEntryFor sited) left;
      ready : IsReadySomewhere g.S.Acts.stands l.net;
      lined : TookLines g.W.Sink.taken g.W.Sink.pieces (IsItemLine sited.nodes) l.fn.sink l.sink [];
      later : g.W.Sink.faults l.fn.sink ≤ g.W.Sink.faults l.sink;
      did : (http : HttpTexts) (n : Network) (w : World) → g.H.Requests.speaks l.requests http → IsReady g.S.Acts.stands l.fn.net n w → (after : World)
          × DidSo g.S.Acts.stands g.S.Acts.tallied sited.nodes l.fn.net l.net (given_to g.W.Sink.taken g.W.Sink.pieces l.fn.sink) (given_to g.W.Sink.taken g.W.Sink.pieces l.sink) http n l.workers w
          (map Does (into_iter_items l.initial.entry-iterator)) after (map Does left);
    }
