use Rattle.range_journal.proofs.Once.{before_stands, before_any, closed_over}
use Rattle.range_journal.proofs.laws.a_doubt_stays_or_is_made.Goals as goal

pub returns-clause-stands : goal.returns-clause-stands
returns-clause-stands c = before_stands

pub returns-clause-any : goal.returns-clause-any
returns-clause-any c = before_any

pub returns-clause-closing : goal.returns-clause-closing
returns-clause-closing c = closed_over
