use Rattle.std.proofs.Common.{sym, ◌∙◌, arith}
use Rattle.whole_audit.proofs.Deciding.{none_judged, breaks, goes_on, ends_well, ends_early}
use Rattle.whole_audit.proofs.judge.break_of.Goals as goal

pub loop-place-init : goal.loop-place-init
loop-place-init c = none_judged c.args.scenario.now c.in_ok-judge.judge c.args.items.now (c.in_ok-judge.ensures {u = tt})

pub loop-place-preserved : goal.loop-place-preserved
loop-place-preserved c =
    let so_far = c.loop-place.invariant in
    let taken = c.in_ok-rule.ensures {u = tt} so_far.before so_far.judge in
    goes_on c.args.scenario.now c.args.items.now c.loop-place.place c.index-items-place.result (omega arith) c.index-items-place.is c.loop-place.judge c.take.new.self so_far (sym c.in_default.is ∙ taken.0) (taken.1 c.in_default.is)

pub returns-in-Some-clause-place : goal.returns-in-Some-clause-place
returns-in-Some-clause-place c =
    let so_far = c.loop-place.invariant in
    let taken = c.in_ok-rule.ensures {u = tt} so_far.before so_far.judge in
    breaks c.args.scenario.now c.args.items.now c.loop-place.place c.index-items-place.result (omega arith) c.index-items-place.is c.loop-place.judge so_far c.in-Some.rule (sym c.in-Some.is ∙ taken.0)

pub returns-then-may_end-clause-place : goal.returns-then-may_end-clause-place
returns-then-may_end-clause-place c =
    let so_far = c.loop-place.invariant in
    ends_well c.args.scenario.now c.loop-place.judge c.args.items.now c.loop-place.place (omega arith) (omega arith) so_far (sym (c.may_end.ensures so_far.before so_far.judge.walk) ∙ c.if-may_end.true)

pub returns-clause-place : goal.returns-clause-place
returns-clause-place c =
    let so_far = c.loop-place.invariant in
    ends_early c.args.scenario.now c.loop-place.judge c.args.items.now c.loop-place.place (omega arith) (omega arith) so_far (sym (c.may_end.ensures so_far.before so_far.judge.walk) ∙ c.if-may_end.false)
