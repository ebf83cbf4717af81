use Rattle.world_nodes.proofs.Emissions.{within, is_formed, reaches_raised, emitted_raised}
use Rattle.world_nodes.proofs.frame_puts.emit.Goals as goal

pub raise-requires-clause-received : goal.raise-requires-clause-received
raise-requires-clause-received g c =
    let a = c.requires.asked in within g.X.Wire a.0 a.1 c.args.side.now c.args.lease c.args.order.now a.2

pub emit-requires-clause-formed : goal.emit-requires-clause-formed
emit-requires-clause-formed g c =
    let a = c.requires.asked in is_formed g.X.Wire a.0 a.1 c.args.side.now c.args.lease c.args.order.now a.2

pub emit-requires-clause-reach : goal.emit-requires-clause-reach
emit-requires-clause-reach g c =
    let a = c.requires.asked in reaches_raised g.X.Wire a.0 a.1 c.args.side.now c.args.lease c.args.order.now a.2 c.raise.new.self c.raise.ensures

pub returns-clause-emitted : goal.returns-clause-emitted
returns-clause-emitted g c net w m =
    let e = c.emit.ensures in
    emitted_raised g.X.Wire net w c.args.side.now c.args.lease c.args.order.now m c.raise.new.self c.emit.new.self c.emit.result
    c.raise.ensures e.lane e.ledger e.frames e.number e.sent
