use Rattle.std.proofs.Common.{sym, length}
use Rattle.scenario_text.proofs.Lists.{names_all, some_there}
use Rattle.scenario_text.proofs.key_lines.names.Goals as goal

pub returns-else-is_empty : goal.returns-else-is_empty
returns-else-is_empty c = names_all _ _ c.loop-key.names (sym (rw c.in_default.is at c.word.ensures.word)) c.loop-key.invariant.means c.loop-key.invariant.count (some_there c.is_empty.result (length c.loop-key.names) c.is_empty.ensures c.if-is_empty.false) c.loop-key.invariant.short
