use Rattle.journal_snapshot.proofs.Standings.{made_new, new_closed, new_closing}
use Rattle.journal_snapshot.proofs.laws.a_new_disk_is_blank_or_has_its_head.Goals as goal

pub returns-clause-stands : goal.returns-clause-stands
returns-clause-stands c = made_new

pub returns-clause-closed : goal.returns-clause-closed
returns-clause-closed c = new_closed

pub returns-clause-closing : goal.returns-clause-closing
returns-clause-closing c = new_closing
