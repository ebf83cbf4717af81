use Rattle.kme_keys.proofs.Overs.{fill_over}
use Rattle.kme_keys.proofs.drawn.law_fill_over_other_octets.Goals as goal

pub returns : goal.returns
returns c site up v master slave bits count zeros random z r = fill_over site up v master slave bits count zeros random z r
