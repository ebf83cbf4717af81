use Rattle.std.proofs.Common.{ap, sym, ◌∙◌}
use Rattle.kme_relay.specs.Wanted.{facts_from}
use Rattle.kme_relay.specs.Drafts.{with_all}
use Rattle.kme_relay.proofs.Rests.{full_stays}
use Rattle.kme_relay.proofs.UnderWay.{from_front}
use Rattle.kme_relay.proofs.wanted.add_facts.Goals as goal

pub loop-draft-init : goal.loop-draft-init
loop-draft-init c =
    ap (with_all c.args.known.now.facts c.args.lane.now c.args.received c.args.draft.now) (from_front c.args.known.now c.args.window.now.volatile c.args.lane.now c.args.to c.args.front c.requires)

pub returns : goal.returns
returns c =
    sym (c.loop-draft.invariant
    ∙ full_stays c.args.known.now.facts c.args.lane.now c.args.received c.loop-draft.draft (facts_from c.args.known.now c.args.window.now.volatile c.args.lane.now c.args.to c.loop-draft.from) c.loop-draft-test.false)
