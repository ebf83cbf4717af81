use Rattle.journal_snapshot.proofs.Standings.{batches_of, holds_any, closing_holds, closing_plain}
use Rattle.journal_snapshot.proofs.laws.a_doubt_stays_or_is_made.Goals as goal

pub returns-clause-reads : goal.returns-clause-reads
returns-clause-reads c = batches_of

pub returns-clause-any : goal.returns-clause-any
returns-clause-any c = holds_any

pub returns-clause-closing : goal.returns-clause-closing
returns-clause-closing c = closing_holds

pub returns-clause-plain : goal.returns-clause-plain
returns-clause-plain c = closing_plain
