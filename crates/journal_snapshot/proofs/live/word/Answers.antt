use Rattle.std.proofs.Common.{rules}
use Rattle.journal_snapshot.specs.Layout.{word}
use Rattle.journal_snapshot.proofs.live.word.Goals as goal

pub returns : goal.returns
unfolding word
returns c = search rules
