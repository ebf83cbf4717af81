use Rattle.edge_io.proofs.Pieces.{Wrote}
use Rattle.gathered_sink.proofs.gathered_sink.write_whole.Given as goal

abbrev pub invariant-loop : goal.invariant-loop
invariant-loop g l = Wrote (g.W.Write.contents l.fn.writer) (g.W.Write.contents l.writer) l.bytes l.rest
