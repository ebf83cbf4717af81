use Rattle.std.proofs.Common.{rules}
use Rattle.journal_snapshot.specs.Layout.{fields_of}
use Rattle.journal_snapshot.proofs.checkpoint.field_octets.Goals as goal

pub returns : goal.returns
unfolding fields_of
returns c = search rules
