use Rattle.law_quiet.proofs.GroupReadiness.{group_is_ready}
use Rattle.law_quiet.proofs.quiet_laws.law_group_keys_are_ready.Goals as goal

pub returns : goal.returns
returns c = λ net w n m slaves bits conserved backs own kept. group_is_ready net w conserved n backs m slaves bits own kept
