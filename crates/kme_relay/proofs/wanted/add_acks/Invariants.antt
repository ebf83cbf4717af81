use Rattle.std.proofs.Common.{◌≡◌, List, length}
use Rattle.net_model.specs.declared.fact.Fact.{Fact}
use Rattle.kme_relay.specs.Wanted.{acks_from}
use Rattle.kme_relay.specs.Drafts.{with_all}
use Rattle.kme_relay.proofs.wanted.add_acks.Given as goal

abbrev pub invariant-loop-draft : goal.invariant-loop-draft
invariant-loop-draft l = (facts : List Fact) → with_all facts l.lane l.received l.fn.draft (acks_from l.window l.lane 0) ≡ with_all facts l.lane l.received l.draft (acks_from l.window l.lane l.from)

abbrev pub decreases-loop-draft : goal.decreases-loop-draft
decreases-loop-draft l = length (acks_from l.window l.lane l.from)
