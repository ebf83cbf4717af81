use Rattle.std.proofs.Common.{refl}
use Rattle.model_examples.specs.RunRows.{StoppedStart, ForeignStart, NoMemoryAtStart, DownInSettle, RefusedInSettle, LossInSettle, Refusals, FullLink, ForgedRefusals, RefusedReplies, ForgedRun, GroupOrder, Requests}
use Rattle.model_examples.proofs.Opened.{opened}

pub stopped_start : StoppedStart
unfolding opened
stopped_start = refl

pub foreign_start : ForeignStart
unfolding opened
foreign_start = refl

pub no_memory_at_start : NoMemoryAtStart
unfolding opened
no_memory_at_start = refl

pub down_in_settle : DownInSettle
unfolding opened
down_in_settle = refl

pub refused_in_settle : RefusedInSettle
unfolding opened
refused_in_settle = refl

pub loss_in_settle : LossInSettle
unfolding opened
loss_in_settle = refl

pub refusals : Refusals
unfolding opened
refusals = refl

pub full_link : FullLink
unfolding opened
full_link = refl

pub forged_refusals : ForgedRefusals
unfolding opened
forged_refusals = refl

pub refused_replies : RefusedReplies
unfolding opened
refused_replies = refl

pub forged_run : ForgedRun
unfolding opened
forged_run = refl

pub group_order : GroupOrder
unfolding opened
group_order = refl

pub requests : Requests
unfolding opened
requests = refl
