use Rattle.kme_journal.proofs.Bodies.{formed, respelled, same_length}
use Rattle.kme_journal.proofs.draft.respell_octets.Goals as goal

pub respell-requires-clause-formed : goal.respell-requires-clause-formed
respell-requires-clause-formed c = formed c.args.batch.now c.requires.formed

pub returns-clause-size : goal.returns-clause-size
returns-clause-size c = same_length c.spelled_is_read.ensures.length c.args.batch.now c.args.octets.now c.respell.new.into c.requires c.respell.ensures.first

pub returns-clause-spelled : goal.returns-clause-spelled
returns-clause-spelled c = respelled c.spelled_is_read.ensures.length c.args.batch.now c.args.octets.now c.respell.new.into c.requires c.respell.ensures.first c.respell.ensures.second c.respell.ensures.grammar
