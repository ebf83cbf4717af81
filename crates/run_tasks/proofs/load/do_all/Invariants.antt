use Rattle.std.proofs.Common.{◌≡◌, ◌≤◌, true, length, map, []}
use Rattle.std.specs.List.{AllByRecursion, list_all}
use Rattle.std.specs.Vec.Iter.{into_iter_items, into_iter_len}
use Rattle.net_model.specs.World.{Network, World}
use Rattle.run_model.specs.Turn.{HttpTexts}
use Rattle.run_model.specs.Report.{Does}
use Rattle.run_model.specs.Headline.{given_to}
use Rattle.run_ops.specs.Acting.{IsReady}
use Rattle.run_lines.specs.Running.{IsReadySomewhere}
use Rattle.law_run.specs.Kinds.{is_load_entry}
use Rattle.run_tasks.specs.Entries.{IsLineFor}
use Rattle.run_tasks.specs.Leading.{Went}
use Rattle.run_lines.specs.Reporting.{IsItemLine, TookLines}
use Rattle.run_tasks.proofs.load.do_all.Given as goal

abbrev pub invariant-loop-entry : goal.invariant-loop-entry
invariant-loop-entry g l =
    let sited = g.S.Acts.site l.fn.net in
    let left = into_iter_items l.entry-iterator in
    record {
      site : g.S.Acts.site l.net ≡ sited;
      armed : g.S.Acts.armed l.net ≡ g.S.Acts.armed l.fn.net;
      long : into_iter_len l.entry-iterator ≡ length left;
      load : list_all is_load_entry left ≡ true;
      fit : AllByRecursion (IsLineFor sited) left;
      ready : IsReadySomewhere g.S.Acts.stands l.net;
      lined : TookLines g.W.Sink.taken g.W.Sink.pieces (IsItemLine sited.nodes) l.fn.sink l.sink [];
      later : g.W.Sink.faults l.fn.sink ≤ g.W.Sink.faults l.sink;
      went : (http : HttpTexts) (n : Network) (w : World) → IsReady g.S.Acts.stands l.fn.net n w → (after : World)
          × Went g.S.Acts.stands g.S.Acts.tallied sited.nodes l.fn.net l.net (given_to g.W.Sink.taken g.W.Sink.pieces l.fn.sink) (given_to g.W.Sink.taken g.W.Sink.pieces l.sink) http n w
          (map Does (into_iter_items l.initial.entry-iterator)) after (map Does left) l.handed;
    }
