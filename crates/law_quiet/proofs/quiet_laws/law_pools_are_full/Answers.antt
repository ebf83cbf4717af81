use Rattle.std.proofs.Common.{refl}
use Rattle.law_quiet.proofs.FullPools.{full}
use Rattle.law_quiet.proofs.quiet_laws.law_pools_are_full.Goals as goal

pub returns : goal.returns
returns c = λ net w m t bits conserved backs. full net w conserved (net.site.home m) m t bits refl backs
