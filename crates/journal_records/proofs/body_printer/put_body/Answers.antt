use Rattle.std.proofs.Common.{arith}
use Rattle.journal_records.proofs.Loops.{body_written, body_fits, body_some}
use Rattle.journal_records.proofs.body_printer.put_body.Goals as goal

pub put_short-at-requires : goal.put_short-at-requires
put_short-at-requires c = omega (arith, c.requires.whole, body_some c.args.version c.args.records.now)

pub put_records-requires-clause-fits : goal.put_records-requires-clause-fits
put_records-requires-clause-fits c = body_fits c.args.version c.args.records.now _ c.put_short-at.result (omega (arith, c.requires.whole, c.put_short-at.auto.into)) (omega (arith, c.put_short-at.ensures.end_is))

pub returns-clause-octets : goal.returns-clause-octets
returns-clause-octets c =
    body_written c.args.version c.args.records.now c.args.into.now c.put_short-at.new.into c.put_records.new.into c.args.count c.put_short-at.result c.put_records.result c.requires.count c.requires.whole
    (omega (arith, c.put_records.auto.into, c.put_short-at.auto.into)) c.put_short-at.ensures c.put_records.ensures.octets
