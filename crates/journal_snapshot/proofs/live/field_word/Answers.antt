use Rattle.std.proofs.Common.{rules}
use Rattle.journal_snapshot.specs.Layout.{field_word}
use Rattle.journal_snapshot.proofs.live.field_word.Goals as goal

pub returns : goal.returns
unfolding field_word
returns c = search rules
