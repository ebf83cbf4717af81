use Rattle.net_model.specs.Frames.{octets_sent}
use Rattle.net_world.specs.Other.{sealed_on}
use Rattle.net_world.proofs.Apart.{lie_apart}
use Rattle.net_world.proofs.veil_laws.law_sent_lie_apart.Goals as goal

pub returns-clause-apart : goal.returns-clause-apart
returns-clause-apart c net w others l network conserved at differ = lie_apart net w network conserved l at c.spelled_is_read.ensures.len others differ

pub returns-clause-fits : goal.returns-clause-fits
returns-clause-fits c net w others l network conserved at differ =
    c.law_every_key_fits.ensures.fits (octets_sent net w l) (sealed_on w others l) (lie_apart net w network conserved l at c.spelled_is_read.ensures.len others differ)
