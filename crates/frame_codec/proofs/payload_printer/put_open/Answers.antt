use Rattle.frame_codec.proofs.Writes.{then_puts}
use Rattle.frame_codec.proofs.payload_printer.put_open.Goals as goal

pub returns-clause-octets : goal.returns-clause-octets
returns-clause-octets c = then_puts c.put_name-at.ensures.octets (then_puts c.put_sae-at.ensures.octets (then_puts c.put_sae-at-2.ensures.octets (then_puts c.put_short-at.ensures c.put_route.ensures.octets)))
