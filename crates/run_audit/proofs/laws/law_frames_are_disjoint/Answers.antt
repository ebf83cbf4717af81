use Rattle.run_audit.proofs.Sound.{frames_are_disjoint}
use Rattle.run_audit.proofs.laws.law_frames_are_disjoint.Goals as goal

pub returns : goal.returns
returns c = frames_are_disjoint
