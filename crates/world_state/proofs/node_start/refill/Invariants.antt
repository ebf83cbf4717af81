use Rattle.world_state.specs.Starting.{octets_in}
use Rattle.world_state.proofs.Refilling.{Filled}
use Rattle.world_state.proofs.node_start.refill.Given as goal

abbrev pub invariant-loop-number : goal.invariant-loop-number
invariant-loop-number g l = Filled (octets_in l.fn.manager.view l.fn.side.lane) l.fn.side l.number l.side
