use Rattle.journal_records.specs.declared.version.Version.TheVariants.{First}
use Rattle.journal_records.proofs.Bodies.{answer_long, first_whole}
use Rattle.journal_records.proofs.body_printer.spell_batch.Goals as goal

pub spelled-requires-clause-whole : goal.spelled-requires-clause-whole
spelled-requires-clause-whole c = first_whole c.as_slice-records.result.now c.size_of-size.result c.size_of-size.ensures.size

pub returns-clause-length : goal.returns-clause-length
returns-clause-length c = answer_long First c.as_slice-records.result.now c.args.batch.now c.as_slice-records.ensures c.spelled.result c.spelled.ensures.octets
