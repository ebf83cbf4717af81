use Rattle.std.proofs.Common.{sym}
use Rattle.kme_relay.proofs.UnderWay.{over_next, past_all, is_one, is_other}
use Rattle.kme_relay.proofs.fronts.gone_on.Goals as goal
use Rattle.kme_relay.proofs.fronts.gone_on.Goals.{else-not-holds-via-then-not-holds+else-not-awaits, else-not-holds-via-else-not-holds}

pub loop-place-preserved : goal.loop-place-preserved
loop-place-preserved c =
    over_next c.args.known.now.me c.args.known.now.acked c.args.known.now.facts c.args.window.now.volatile c.args.lane.now c.args.to c.loop-place.front c.in-Some.place c.loop-place.invariant c.in-Some.ensures.first
    c.in-Some-name_at.name c.in-Some-name_at.ensures
    (elim c.else-not-holds.branch [
      | else-not-holds-via-then-not-holds+else-not-awaits w ↦ is_other _ _ (sym w.if-not-awaits.ensures)
      | else-not-holds-via-else-not-holds w ↦ is_one _ _ (sym w.if-not-holds.ensures)
    ])

pub returns : goal.returns
returns c =
    past_all c.args.known.now.me c.args.known.now.acked c.args.known.now.facts c.args.window.now.volatile c.args.lane.now c.args.to c.loop-place.front c.len-count.result c.loop-place.invariant c.in_default.ensures.none c.len-count.ensures.length
