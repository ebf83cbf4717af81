use Rattle.range_journal.proofs.Once.{stands_once, stands_for_once, not_refused}
use Rattle.range_journal.proofs.laws.octets_stand_for_one_list.Goals as goal

pub returns-clause-behind : goal.returns-clause-behind
returns-clause-behind c = stands_once

pub returns-clause-once : goal.returns-clause-once
returns-clause-once c = stands_for_once

pub returns-clause-refused : goal.returns-clause-refused
returns-clause-refused c = not_refused
