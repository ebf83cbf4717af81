use Rattle.law_base.proofs.Lasting.{step_more}
use Rattle.world_nodes.proofs.lane_laws.law_step_goes_on.Goals as goal

pub returns : goal.returns
returns c net w a l blocks own lease wire =
    let m = step_more net w a in record { facts = m.facts; blocks = blocks; own = own; lease = lease; frames = m.frames l; wire = wire }
