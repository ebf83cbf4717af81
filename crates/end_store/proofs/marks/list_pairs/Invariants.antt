use Rattle.std.proofs.Common.{length, ◌-◌}
use Rattle.end_store.specs.Marked.{AreMarked}
use Rattle.end_store.proofs.marks.list_pairs.Given as goal

abbrev pub invariant-loop-listed : goal.invariant-loop-listed
invariant-loop-listed l = AreMarked l.pairs l.index l.listed

abbrev pub decreases-loop-listed : goal.decreases-loop-listed
decreases-loop-listed l = length l.pairs - l.listed
