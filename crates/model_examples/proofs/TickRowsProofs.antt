use Rattle.std.proofs.Common.{refl}
use Rattle.model_examples.specs.TickRows.{OneKey, EmptyLanes, HeardAgain, AnyOrder, FullLane, ShortLane, FewBytes, RefusedPut, Ages, ManyRepeats, DownLink}
use Rattle.model_examples.proofs.Opened.{opened}

pub one_key : OneKey
unfolding opened
one_key = refl

pub empty_lanes : EmptyLanes
unfolding opened
empty_lanes = refl

pub heard_again : HeardAgain
unfolding opened
heard_again = refl

pub any_order : AnyOrder
unfolding opened
any_order = refl

pub full_lane : FullLane
unfolding opened
full_lane = refl

pub short_lane : ShortLane
unfolding opened
short_lane = refl

pub few_bytes : FewBytes
unfolding opened
few_bytes = refl

pub refused_put : RefusedPut
unfolding opened
refused_put = refl

pub ages : Ages
unfolding opened
ages = refl

pub many_repeats : ManyRepeats
unfolding opened
many_repeats = refl

pub down_link : DownLink
unfolding opened
down_link = refl
