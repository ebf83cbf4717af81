use Rattle.journal_records.specs.declared.version.Version.TheVariants.{Second}
use Rattle.journal_records.proofs.Bodies.{answer_long, answer_second, second_whole, second_count}
use Rattle.journal_records.proofs.body_printer.spell_batch_2.Goals as goal

pub spelled-requires-clause-count : goal.spelled-requires-clause-count
spelled-requires-clause-count c = second_count c.as_slice-records.result.now c.tally_of-tally.result.items c.tally_of-tally.ensures.items

pub spelled-requires-clause-whole : goal.spelled-requires-clause-whole
spelled-requires-clause-whole c = second_whole c.as_slice-records.result.now c.tally_of-tally.result.octets c.tally_of-tally.ensures.octets

pub returns-clause-length : goal.returns-clause-length
returns-clause-length c = answer_long Second c.as_slice-records.result.now c.args.batch.now c.as_slice-records.ensures c.spelled.result c.spelled.ensures.octets

pub returns-clause-grammar : goal.returns-clause-grammar
returns-clause-grammar c = answer_second c.as_slice-records.result.now c.args.batch.now c.as_slice-records.ensures c.requires.some c.requires.few c.spelled.result c.spelled.ensures.grammar
