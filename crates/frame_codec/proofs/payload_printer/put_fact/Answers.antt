use Rattle.frame_codec.proofs.Writes.{then_puts}
use Rattle.frame_codec.proofs.payload_printer.put_fact.Goals as goal

pub returns-in-Key-clause-octets : goal.returns-in-Key-clause-octets
returns-in-Key-clause-octets c = rw c.in-Key.is (then_puts c.put-at.ensures.octets c.put_key.ensures.octets)

pub returns-in-Stored-clause-octets : goal.returns-in-Stored-clause-octets
returns-in-Stored-clause-octets c = rw c.in-Stored.is (then_puts c.put-at-in-Stored.ensures.octets c.put_note.ensures.octets)

pub returns-in-Open-clause-octets : goal.returns-in-Open-clause-octets
returns-in-Open-clause-octets c = rw c.in-Open.is (then_puts c.put-at-in-Open.ensures.octets c.put_open.ensures.octets)

pub returns-in-Joined-clause-octets : goal.returns-in-Joined-clause-octets
returns-in-Joined-clause-octets c = rw c.in-Joined.is (then_puts c.put-at-in-Joined.ensures.octets c.put_note-in-Joined.ensures.octets)

pub returns-in-Chunk-clause-octets : goal.returns-in-Chunk-clause-octets
returns-in-Chunk-clause-octets c = rw c.in-Chunk.is (then_puts c.put-at-in-Chunk.ensures.octets c.put_chunk.ensures.octets)

pub returns-in-Part-clause-octets : goal.returns-in-Part-clause-octets
returns-in-Part-clause-octets c = rw c.in-Part.is (then_puts c.put-at-in-Part.ensures.octets (then_puts c.put_name-at.ensures.octets c.put_key-in-Part.ensures.octets))
