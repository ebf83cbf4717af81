use Rattle.law_parallel.proofs.Sealed.{all_sealed}
use Rattle.law_parallel.proofs.lane_work_laws.law_frames_have_octets_given.Goals as goal

pub returns : goal.returns
returns c = all_sealed
