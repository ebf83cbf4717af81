use Rattle.std.proofs.Common.{◌+◌, ap, sym, ◌∙◌}
use Rattle.qkd_base.specs.Lane.{reverse_lane}
use Rattle.kme_relay.specs.Wanted.{acks_from}
use Rattle.kme_relay.specs.Drafts.{with_all}
use Rattle.kme_relay.proofs.Rests.{one_added, full_stays, acks_all}
use Rattle.kme_relay.proofs.wanted.add_acks.Goals as goal

pub loop-draft-preserved : goal.loop-draft-preserved
loop-draft-preserved c facts =
    one_added facts c.args.lane.now c.args.received c.args.draft.now c.loop-draft.draft c.add_ack.new.self (acks_from c.args.window.now c.args.lane.now 0) (acks_from c.args.window.now c.args.lane.now c.loop-draft.from)
    (acks_from c.args.window.now c.args.lane.now (c.in-Some.pending.place + 1)) _ (c.loop-draft.invariant facts) c.in-Some.ensures.some (c.in_ok-add_ack-in-Some.ensures facts)

pub returns : goal.returns
returns c facts =
    sym (ap (with_all facts c.args.lane.now c.args.received c.args.draft.now) (acks_all c.args.window.now c.args.lane.now _ (c.stands.ensures (reverse_lane c.args.lane.now)))
    ∙ c.loop-draft.invariant facts ∙ full_stays facts c.args.lane.now c.args.received c.loop-draft.draft (acks_from c.args.window.now c.args.lane.now c.loop-draft.from) c.loop-draft-test.false)
