use Rattle.std.proofs.Common.{◌≡◌, ◌-◌, length}
use Rattle.kme_relay.specs.Wanted.{facts_from}
use Rattle.kme_relay.proofs.wanted.next_fact.Given as goal

abbrev pub invariant-loop-place : goal.invariant-loop-place
invariant-loop-place l = facts_from l.known l.window.volatile l.lane l.to l.from ≡ facts_from l.known l.window.volatile l.lane l.to l.next

abbrev pub decreases-loop-place : goal.decreases-loop-place
decreases-loop-place l = length l.known.facts - l.next
