use Rattle.run_audit.proofs.OneContent.{frames_carry_one}
use Rattle.run_audit.proofs.laws.law_frames_carry_one.Goals as goal

pub returns : goal.returns
returns c = frames_carry_one
