use Rattle.par_frames.proofs.Parts.{just_moved}
use Rattle.par_frames.proofs.lane_work_laws.law_permutation_has_just.Goals as goal

pub returns : goal.returns
returns g c = λ xs ys p. just_moved xs ys p
