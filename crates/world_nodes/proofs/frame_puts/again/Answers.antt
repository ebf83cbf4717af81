use Rattle.world_nodes.proofs.Repeats.{repeat_short, repeated}
use Rattle.world_nodes.proofs.frame_puts.again.Goals as goal

pub again-requires : goal.again-requires
again-requires g c =
    let a = c.requires.asked in record { short = repeat_short g.X.Wire a.0 a.1 c.args.side.now c.args.repeat.now a.2 }

pub returns-clause-repeated : goal.returns-clause-repeated
returns-clause-repeated g c net w m =
    let e = c.again.ensures in
    repeated g.X.Wire net w c.args.side.now c.args.repeat.now m c.again.new.self c.again.result
    e.lane e.frames e.number e.sent
