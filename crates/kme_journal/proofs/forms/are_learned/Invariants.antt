use Rattle.std.proofs.Common.{take}
use Rattle.std.specs.List.{All}
use Rattle.journal_records.specs.Grammar.{IsLearned}
use Rattle.kme_journal.proofs.forms.are_learned.Given as goal

abbrev pub invariant-loop-change : goal.invariant-loop-change
invariant-loop-change l = All IsLearned (take l.change-index l.batch)
