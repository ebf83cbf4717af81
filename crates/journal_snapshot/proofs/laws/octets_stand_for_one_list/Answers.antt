use Rattle.journal_snapshot.proofs.Once.{holds_stands, opened_stands, opened_again, stands_for_once, not_refused}
use Rattle.journal_snapshot.proofs.laws.octets_stand_for_one_list.Goals as goal

pub returns-clause-holds : goal.returns-clause-holds
returns-clause-holds c = holds_stands

pub returns-clause-opened : goal.returns-clause-opened
returns-clause-opened c = opened_stands

pub returns-clause-once : goal.returns-clause-once
returns-clause-once c = stands_for_once

pub returns-clause-refused : goal.returns-clause-refused
returns-clause-refused c = not_refused

pub returns-clause-again : goal.returns-clause-again
returns-clause-again c = opened_again
