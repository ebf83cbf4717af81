use Rattle.law_quiet.proofs.GroupReadiness.{groups_full}
use Rattle.law_quiet.proofs.quiet_laws.law_group_pools_are_full.Goals as goal

pub returns : goal.returns
returns c = λ net w v m slaves bits conserved backs. groups_full net w conserved v m slaves bits backs
