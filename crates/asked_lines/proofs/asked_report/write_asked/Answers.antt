use Rattle.std.proofs.Common.{◌+◌, ◌≤◌, take, sym, subst, arith}
use Rattle.asked_lines.specs.Telling.{IsWanted, IsLeftOut, TookAsked}
use Rattle.asked_lines.proofs.Lines.{asked_at, left_out_at, failed_at, some_asked, wanted_of, left_out_of, no_place}
use Rattle.asked_lines.proofs.asked_report.write_asked.Goals as goal
use Rattle.asked_lines.proofs.asked_report.write_asked.Goals.{then-wanted+in-Ok-write_all, else-wanted}

pub returns-in_default-clause-told : goal.returns-in_default-clause-told
returns-in_default-clause-told g c =
    some_asked g.W.Sink.taken g.W.Sink.pieces c.args.nodes.now c.loop-line.line-index c.args.lines.now c.args.sink.now c.loop-line.sink c.loop-line.invariant.told

pub returns-in-Err-clause-told : goal.returns-in-Err-clause-told
returns-in-Err-clause-told g c =
    let nodes = c.args.nodes.now in
    let line = c.line-item.result in
    failed_at g.W.Sink.taken g.W.Sink.pieces nodes c.loop-line.line-index c.args.lines.now line _ c.loop-line-test.true c.line-item.is c.args.sink.now c.loop-line.sink c.loop-line.invariant.told
    c.write_all.new.self (wanted_of c.in-Ok.wanted (IsWanted nodes line) (IsLeftOut nodes line) c.if-wanted.true (rw c.as_slice.ensures at c.in-Ok.ensures)) (rw c.as_slice-then-wanted.ensures at c.in-Err.ensures.bytes)
    c.in-Err.ensures.piece

pub loop-line-preserved : goal.loop-line-preserved
loop-line-preserved g c = elim c.if-wanted.branch [
  | then-wanted+in-Ok-write_all w ↦
      let nodes = c.args.nodes.now in
      let line = c.line-item.result in
      record {
        told = subst (TookAsked g.W.Sink.taken g.W.Sink.pieces nodes (take (c.loop-line.line-index + 1) c.args.lines.now) c.args.sink.now) (sym w.sink-is)
            (asked_at g.W.Sink.taken g.W.Sink.pieces nodes c.loop-line.line-index c.args.lines.now line _ c.loop-line-test.true c.line-item.is c.args.sink.now c.loop-line.sink c.loop-line.invariant.told
            w.write_all.new.self (wanted_of c.in-Ok.wanted (IsWanted nodes line) (IsLeftOut nodes line) w.if-wanted.true (rw c.as_slice.ensures at c.in-Ok.ensures))
            (rw w.as_slice-then-wanted.ensures at w.in-Ok-write_all.ensures.bytes) (rw w.as_slice-then-wanted.ensures at w.in-Ok-write_all.ensures.piece));
        none = λ empty. absurd (no_place c.args.lines.now c.loop-line.line-index c.loop-line-test.true empty);
        later = subst (λ (s : g.row.W.Denot). g.W.Sink.faults c.args.sink.now ≤ g.W.Sink.faults s) (sym w.sink-is) (omega (arith, c.loop-line.invariant.later, w.write_all.ensures.cause.later));
      }
  | else-wanted w ↦
      let nodes = c.args.nodes.now in
      let line = c.line-item.result in
      record {
        told = subst (TookAsked g.W.Sink.taken g.W.Sink.pieces nodes (take (c.loop-line.line-index + 1) c.args.lines.now) c.args.sink.now) (sym w.sink-is)
            (left_out_at g.W.Sink.taken g.W.Sink.pieces nodes c.loop-line.line-index c.args.lines.now line _ c.loop-line-test.true c.line-item.is c.args.sink.now c.loop-line.sink c.loop-line.invariant.told
            (left_out_of c.in-Ok.wanted (IsWanted nodes line) (IsLeftOut nodes line) w.if-wanted.false (rw c.as_slice.ensures at c.in-Ok.ensures)));
        none = λ empty. absurd (no_place c.args.lines.now c.loop-line.line-index c.loop-line-test.true empty);
        later = subst (λ (s : g.row.W.Denot). g.W.Sink.faults c.args.sink.now ≤ g.W.Sink.faults s) (sym w.sink-is) c.loop-line.invariant.later;
      }
]
