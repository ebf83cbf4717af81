use Rattle.std.proofs.Common.{◌≡◌, ◌≤◌, ℕ, drop, []}
use Rattle.net_model.specs.World.{Network, World}
use Rattle.run_model.specs.Turn.{HttpTexts}
use Rattle.run_model.specs.Report.{starts_from}
use Rattle.run_model.specs.Headline.{given_to}
use Rattle.run_ops.specs.Acting.{IsReady}
use Rattle.run_tasks.proofs.Tasking.{DidSo}
use Rattle.run_lines.specs.Reporting.{IsItemLine, TookLines}
use Rattle.run_tasks.proofs.entries.begin_all.Given as goal

abbrev pub invariant-loop-place : goal.invariant-loop-place
invariant-loop-place g l =
    let sited = g.S.Acts.site l.fn.net in
    record {
      site : g.S.Acts.site l.net ≡ sited;
      armed : g.S.Acts.armed l.net ≡ g.S.Acts.armed l.fn.net;
      lined : TookLines g.W.Sink.taken g.W.Sink.pieces (IsItemLine sited.nodes) l.fn.sink l.sink [];
      later : g.W.Sink.faults l.fn.sink ≤ g.W.Sink.faults l.sink;
      did : (http : HttpTexts) (n : Network) (workers : ℕ) (w : World) → IsReady g.S.Acts.stands l.fn.net n w → (after : World)
          × DidSo g.S.Acts.stands g.S.Acts.tallied sited.nodes l.fn.net l.net (given_to g.W.Sink.taken g.W.Sink.pieces l.fn.sink) (given_to g.W.Sink.taken g.W.Sink.pieces l.sink) http n workers w
          (starts_from 0 l.node_lines) after (starts_from l.place (drop l.place l.node_lines));
    }
