use Rattle.range_journal.proofs.Heads.{made_new_head, made_new_stands}
use Rattle.range_journal.proofs.laws.a_new_disk_is_blank_or_has_its_head.Goals as goal

pub returns-clause-head : goal.returns-clause-head
returns-clause-head c = made_new_head

pub returns-clause-stands : goal.returns-clause-stands
returns-clause-stands c = made_new_stands
