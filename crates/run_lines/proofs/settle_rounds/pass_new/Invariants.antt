use Rattle.std.proofs.Common.{◌≡◌, ◌≤◌, map, []}
use Rattle.net_model.specs.World.{Network, World}
use Rattle.run_model.specs.Headline.{given_to}
use Rattle.run_ops.specs.Acting.{IsReady}
use Rattle.run_lines.specs.Counting.{on_wire}
use Rattle.run_lines.proofs.Passing.{Passed}
use Rattle.run_lines.specs.Reporting.{IsItemLine, TookLines}
use Rattle.run_lines.proofs.settle_rounds.pass_new.Given as goal

abbrev pub invariant-loop-place : goal.invariant-loop-place
invariant-loop-place g l =
    let sited = g.S.Acts.site l.fn.net in
    record {
      site : g.S.Acts.site l.net ≡ sited;
      armed : g.S.Acts.armed l.net ≡ g.S.Acts.armed l.fn.net;
      lined : TookLines g.W.Sink.taken g.W.Sink.pieces (IsItemLine sited.nodes) l.fn.sink l.sink [];
      later : g.W.Sink.faults l.fn.sink ≤ g.W.Sink.faults l.sink;
      passed : (n : Network) (earlier w : World) → IsReady g.S.Acts.stands l.fn.net n w → l.before ≡ map (on_wire earlier) l.lanes →
          Passed g.S.Acts.stands g.S.Acts.tallied sited.nodes l.number l.lanes l.fn.net l.net (given_to g.W.Sink.taken g.W.Sink.pieces l.fn.sink) (given_to g.W.Sink.taken g.W.Sink.pieces l.sink) n earlier w l.place
          (record { each = l.each; all = l.all });
    }
