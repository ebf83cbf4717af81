use Rattle.net_world.proofs.Bodies.{reads}
use Rattle.net_world.proofs.laws.law_disks_are_read.Goals as goal

pub returns : goal.returns
returns c = reads
