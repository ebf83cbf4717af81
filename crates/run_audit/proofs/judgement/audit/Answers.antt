use Rattle.std.proofs.Common.{◌≡◌, ℕ, ◌<◌, ◌^◌, length, sym, ap, arith, ◌∙◌}
use Rattle.run_audit.specs.declared.verdict.Verdict.TheVariants as verdicts
use Rattle.run_audit.proofs.Judging.{none_judged, breaks, goes_on, all_judged}
use Rattle.run_audit.proofs.judgement.audit.Goals as goal

pub loop-place-init : goal.loop-place-init
loop-place-init c = none_judged c.args.scenario.now c.new-record.result c.args.items.now c.args.first (c.new-record.ensures c.args.scenario.now)

pub loop-place-preserved : goal.loop-place-preserved
loop-place-preserved c =
    let so_far = c.loop-place.invariant in
    let few : length so_far.before < 2 ^ 32 = omega (arith, so_far.count, c.loop-place-test.true, c.requires) in
    let taken = c.in_ok-rule.ensures {u = tt} so_far.before (c.in_ok-kinds.ensures {u = tt}) few so_far.kept in
    goes_on c.args.scenario.now c.args.items.now c.args.first c.loop-place.place c.index-items-place.result (omega arith) c.index-items-place.is c.loop-place.record c.take.new.self so_far (sym c.in_default.is ∙ taken.0) (taken.1 c.in_default.is)

pub returns-in-Some : goal.returns-in-Some
returns-in-Some c =
    let so_far = c.loop-place.invariant in
    let few : length so_far.before < 2 ^ 32 = omega (arith, so_far.count, c.loop-place-test.true, c.requires) in
    let taken = c.in_ok-rule.ensures {u = tt} so_far.before (c.in_ok-kinds.ensures {u = tt}) few so_far.kept in
    breaks c.args.scenario.now c.args.items.now c.args.first c.loop-place.place c.index-items-place.result (omega arith) c.index-items-place.is c.loop-place.record so_far c.in-Some.rule (sym c.in-Some.is ∙ taken.0)

pub returns : goal.returns
returns c =
    ap (λ (t : ℕ × ℕ × ℕ). verdicts.Yes t.0 t.1 t.2) c.counts-frames.ensures
    ∙ all_judged c.args.scenario.now c.loop-place.record c.args.items.now c.args.first c.loop-place.place (omega arith) (omega arith) c.requires c.loop-place.invariant
