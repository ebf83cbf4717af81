use Rattle.std.proofs.Common.{arith, rules}
use Rattle.std.specs.BTreeSet.{contains}
use Rattle.std.specs.Ordering.{nat_cmp}
use Rattle.tag_bound.proofs.Seen.{seen_none, seen_more, first_repeat_at, distinct_at_end}
use Rattle.tag_bound.proofs.keys.first_repeat.Goals as goal

pub loop-place-init : goal.loop-place-init
loop-place-init c = seen_none (contains nat_cmp c.new-seen.result) c.args.keys.now (λ q. grind arith)

pub returns-then-not-branch-clause-first : goal.returns-then-not-branch-clause-first
returns-then-not-branch-clause-first c = first_repeat_at (contains nat_cmp c.loop-place.seen) c.args.keys.now c.loop-place.place c.loop-place.invariant c.loop-place-test.true (search rules)

pub loop-place-preserved : goal.loop-place-preserved
loop-place-preserved c = seen_more (contains nat_cmp c.loop-place.seen) (contains nat_cmp c.insert.new.self) c.args.keys.now c.loop-place.place c.loop-place.invariant c.loop-place-test.true (search rules) c.in_ok-insert.ensures.updates.0

pub returns-clause-first : goal.returns-clause-first
returns-clause-first c = distinct_at_end (contains nat_cmp c.loop-place.seen) c.args.keys.now c.loop-place.place c.loop-place.invariant (omega arith)
