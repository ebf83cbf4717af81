use Rattle.net_model.specs.Frames.{octets_sent}
use Rattle.net_world.specs.Other.{sealed_on}
use Rattle.net_world.proofs.Wires.{same_wire}
use Rattle.net_world.proofs.veil_laws.law_other_keys_fit.Goals as goal

pub returns : goal.returns
returns c net w network conserved sealing others differ l at = record {
  wire = same_wire net w network conserved l at sealing others differ (c.law_sent_lie_apart.ensures.fits net w others l network conserved at differ);
  bytes = c.law_every_key_fits.ensures.bytes (octets_sent net w l) (sealed_on w others l) (c.law_sent_lie_apart.ensures.apart net w others l network conserved at differ);
}
