use Rattle.std.proofs.Common.{◌≡◌, length}
use Rattle.kme_relay.specs.Wanted.{facts_from}
use Rattle.kme_relay.specs.Drafts.{with_all}
use Rattle.kme_relay.proofs.wanted.add_facts.Given as goal

abbrev pub invariant-loop-draft : goal.invariant-loop-draft
invariant-loop-draft l =
    with_all l.known.facts l.lane l.received l.fn.draft (facts_from l.known l.window.volatile l.lane l.to 0) ≡ with_all l.known.facts l.lane l.received l.draft (facts_from l.known l.window.volatile l.lane l.to l.from)

abbrev pub decreases-loop-draft : goal.decreases-loop-draft
decreases-loop-draft l = length (facts_from l.known l.window.volatile l.lane l.to l.from)
