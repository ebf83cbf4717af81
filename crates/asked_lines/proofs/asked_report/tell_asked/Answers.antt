use Rattle.asked_lines.proofs.Lines.{all_asked}
use Rattle.asked_lines.proofs.asked_report.tell_asked.Goals as goal

pub returns-in-Err-WriteFault-clause-told : goal.returns-in-Err-WriteFault-clause-told
returns-in-Err-WriteFault-clause-told g c =
    all_asked g.W.Sink.taken g.W.Sink.pieces c.args.nodes.now c.args.kept.now.0 c.args.sink.now c.write_asked.new.sink (rw c.lines.ensures at c.in_ok-write_asked.ensures.told.1)

pub returns-in-Err-Memory-clause-told : goal.returns-in-Err-Memory-clause-told
returns-in-Err-Memory-clause-told g c =
    all_asked g.W.Sink.taken g.W.Sink.pieces c.args.nodes.now c.args.kept.now.0 c.args.sink.now c.write_asked.new.sink (rw c.lines.ensures at c.in_ok-write_asked.ensures.told.1)
