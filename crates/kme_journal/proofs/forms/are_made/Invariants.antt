use Rattle.std.proofs.Common.{take}
use Rattle.std.specs.List.{All}
use Rattle.kme_journal.specs.Spelled.{IsMade}
use Rattle.kme_journal.proofs.forms.are_made.Given as goal

abbrev pub invariant-loop-change : goal.invariant-loop-change
invariant-loop-change l = All IsMade (take l.change-index l.batch)
