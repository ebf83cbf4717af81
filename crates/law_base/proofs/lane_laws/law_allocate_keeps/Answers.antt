use Rattle.law_base.proofs.Allocating.{allocate_keeps}
use Rattle.law_base.proofs.lane_laws.law_allocate_keeps.Goals as goal

pub returns : goal.returns
returns c = allocate_keeps
