use Rattle.std.proofs.Common.{rules}
use Rattle.journal_snapshot.specs.Layout.{fields_of}
use Rattle.journal_snapshot.proofs.checkpoint.slot_octets.Goals as goal

pub returns-clause-first : goal.returns-clause-first
unfolding fields_of
returns-clause-first c = search rules

pub returns-clause-second : goal.returns-clause-second
unfolding fields_of
returns-clause-second c = search rules
