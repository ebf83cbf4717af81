use Rattle.std.proofs.lemmas.List.{take_rest}
use Rattle.edge_io.proofs.Pieces.{wrote_more}
use Rattle.gathered_sink.proofs.gathered_sink.write_whole.Goals as goal

pub loop-preserved : goal.loop-preserved
loop-preserved g c = rw take_rest (wrote_more (g.W.Write.contents c.args.writer.now) (g.W.Write.contents c.loop.writer) (g.W.Write.contents c.write.new.self) c.args.bytes.now c.loop.rest.now c.in-Ok.count c.in-Ok.ensures.bound c.in-Ok.ensures.bytes c.loop.invariant)
