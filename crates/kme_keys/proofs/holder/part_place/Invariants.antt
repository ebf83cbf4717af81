use Rattle.std.proofs.Common.{length, ◌-◌}
use Rattle.kme_keys.specs.Holding.{is_part_for}
use Rattle.kme_keys.proofs.Passing.{IsNoneBefore}
use Rattle.kme_keys.proofs.holder.part_place.Given as goal

abbrev pub invariant-loop-from : goal.invariant-loop-from
invariant-loop-from l = IsNoneBefore (is_part_for l.of l.to l.name) l.known.facts l.from

abbrev pub decreases-loop-from : goal.decreases-loop-from
decreases-loop-from l = length l.known.facts - l.from
