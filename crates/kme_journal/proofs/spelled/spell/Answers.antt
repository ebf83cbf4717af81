use Rattle.kme_journal.proofs.Bodies.{spelled_second}
use Rattle.kme_journal.proofs.spelled.spell.Goals as goal

pub returns-else-version-eq1 : goal.returns-else-version-eq1
returns-else-version-eq1 c =
    spelled_second c.args.version c.args.batch.now c.spell_batch_2.result c.if-version-eq1.false c.requires.some c.requires.few c.requires.formed c.spell_batch_2.ensures.octets c.spell_batch_2.ensures.length c.spell_batch_2.ensures.grammar
