use Rattle.std.proofs.Common.{rules}
use Rattle.journal_snapshot.specs.Layout.{tail_word}
use Rattle.journal_snapshot.proofs.live.tail_word.Goals as goal

pub returns : goal.returns
unfolding tail_word
returns c = search rules
