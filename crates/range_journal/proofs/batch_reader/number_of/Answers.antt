use Rattle.std.proofs.Common.{rules}
use Rattle.std.proofs.lemmas.Nat.{be_bytes_4}
use Rattle.range_journal.proofs.batch_reader.number_of.Goals as goal

pub returns : goal.returns
returns c = be_bytes_4 c.args.octets.now c.from_be_bytes.result c.requires (λ i. let f = c.type_inv.octets i in search rules) c.from_be_bytes.ensures
