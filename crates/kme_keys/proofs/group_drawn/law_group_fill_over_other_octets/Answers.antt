use Rattle.kme_keys.proofs.GroupOvers.{fill_over}
use Rattle.kme_keys.proofs.group_drawn.law_group_fill_over_other_octets.Goals as goal

pub returns : goal.returns
returns c site up v master slaves bits count zeros random z r = fill_over site up v master slaves bits count zeros random z r
