use Rattle.world_nodes.proofs.LaneStarts.{may_raise, within, stands_again}
use Rattle.world_nodes.proofs.lane_lives.restart.Goals as goal

pub restart-requires-clause-received : goal.restart-requires-clause-received
restart-requires-clause-received g c =
    let a = c.requires.asked in within g.X.Wire a.0 a.1 a.2 c.args.side.now c.args.lease a.3

pub restart-requires-clause-later : goal.restart-requires-clause-later
restart-requires-clause-later g c =
    let a = c.requires.asked in may_raise g.X.Wire a.0 a.1 a.2 c.args.side.now c.args.lease a.3

pub returns : goal.returns
returns g c = record { restarted = λ net w committed m. stands_again g.X.Wire net w committed c.args.side.now c.args.lease m c.restart.new.self c.restart.ensures }
