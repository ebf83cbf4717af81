use Rattle.std.proofs.Common.{refl}
use Rattle.model_examples.specs.StartRows.{Leases, PlanCommitted, PlanLost, HandingCommitted, HandingLost, DrawnStays, NewLife, OwnCounts}
use Rattle.model_examples.proofs.Opened.{opened}

pub leases : Leases
unfolding opened
leases = refl

pub plan_committed : PlanCommitted
unfolding opened
plan_committed = refl

pub plan_lost : PlanLost
unfolding opened
plan_lost = refl

pub handing_committed : HandingCommitted
unfolding opened
handing_committed = refl

pub handing_lost : HandingLost
unfolding opened
handing_lost = refl

pub drawn_stays : DrawnStays
unfolding opened
drawn_stays = refl

pub new_life : NewLife
unfolding opened
new_life = refl

pub own_counts : OwnCounts
unfolding opened
own_counts = refl
