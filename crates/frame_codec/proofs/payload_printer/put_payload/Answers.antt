use Rattle.frame_codec.specs.Payload.{payload_octets}
use Rattle.frame_codec.proofs.Writes.{then_puts}
use Rattle.frame_codec.proofs.payload_printer.put_payload.Goals as goal

pub returns-in-Data-clause-octets : goal.returns-in-Data-clause-octets
unfolding payload_octets
returns-in-Data-clause-octets c = rw c.in-Data.is c.put_fact.ensures.octets

pub returns-in-Ack-clause-octets : goal.returns-in-Ack-clause-octets
unfolding payload_octets
returns-in-Ack-clause-octets c = rw c.in-Ack.is (then_puts c.put-at.ensures.octets c.put_name.ensures.octets)
