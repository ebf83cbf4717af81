use Rattle.std.proofs.Common.{refl}
use Rattle.model_examples.specs.PartRows.{TwoPlans, AckedMeanwhile, FullPools, AskedElsewhere, Walks, LaneBytes}
use Rattle.model_examples.proofs.Opened.{opened}

pub two_plans : TwoPlans
unfolding opened
two_plans = refl

pub acked_meanwhile : AckedMeanwhile
unfolding opened
acked_meanwhile = refl

pub full_pools : FullPools
unfolding opened
full_pools = refl

pub asked_elsewhere : AskedElsewhere
unfolding opened
asked_elsewhere = refl

pub walks : Walks
unfolding opened
walks = refl

pub lane_bytes : LaneBytes
unfolding opened
lane_bytes = refl
