use Rattle.std.specs.BTreeSet.{contains}
use Rattle.std.specs.Ordering.{nat_cmp}
use Rattle.tag_bound.proofs.Seen.{IsSeen}
use Rattle.tag_bound.proofs.keys.first_repeat.Given as goal

abbrev pub invariant-loop-place : goal.invariant-loop-place
invariant-loop-place l = IsSeen (contains nat_cmp l.seen) l.keys l.place
