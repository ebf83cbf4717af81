use Rattle.edge_io.proofs.Pieces.{Wrote}
use Rattle.edge_io.proofs.write_sink.write_whole.Given as goal

abbrev pub invariant-loop : goal.invariant-loop
invariant-loop g l = Wrote (g.W.Write.contents l.fn.inner) (g.W.Write.contents l.inner) l.bytes l.rest
