use Rattle.std.proofs.Common.{◌≡◌, ◌+◌, ◌-◌, ◌++◌, List, [], None, Some, take, refl, ap, sym, subst, ◌∙◌, arith}
use Rattle.net_model.specs.declared.repeat.Repeat.{Repeat}
use Rattle.resend_window.specs.Kept.{somes}
use Rattle.resend_window.specs.Repeating.{rest_after}
use Rattle.resend_window.proofs.Dues.{take_step, take_done, take_full, repeats_are}
use Rattle.resend_window.proofs.due_repeats.repeats_of.Goals as goal

pub loop-count-init : goal.loop-count-init
loop-count-init c = ap (λ (rs : List Repeat). rs ++ take 16 (rest_after (c.args.tick + 1) c.args.lane.now (somes c.args.slots.now.items) None)) (sym c.new-repeats.ensures)

pub loop-count-preserved : goal.loop-count-preserved
loop-count-preserved c =
    let rest = rest_after (c.args.tick + 1) c.args.lane.now (somes c.args.slots.now.items) in
    take_step (take 16 (rest None)) c.loop-count.repeats (rest c.loop-count.after) 16 c.loop-count.count c.in-Some.repeat (rest (Some c.in-Some.repeat.offset)) c.loop-count.invariant c.in-Some.ensures.some
    c.loop-count-test.true
    ∙ ap (λ (rs : List Repeat). rs ++ take (16 - (c.loop-count.count + 1)) (rest (Some c.in-Some.repeat.offset))) (sym c.in_ok-push-in-Some.ensures.ok)

pub returns-in-None : goal.returns-in-None
returns-in-None c =
    let rest = rest_after (c.args.tick + 1) c.args.lane.now (somes c.args.slots.now.items) in
    take_done (take 16 (rest None)) c.loop-count.repeats (rest c.loop-count.after) (16 - c.loop-count.count) c.loop-count.invariant c.in-None.ensures.none
    ∙ repeats_are (c.args.tick + 1) c.args.lane.now (somes c.args.slots.now.items)

pub returns : goal.returns
returns c =
    let rest = rest_after (c.args.tick + 1) c.args.lane.now (somes c.args.slots.now.items) in
    take_full (take 16 (rest None)) c.loop-count.repeats (rest c.loop-count.after) 16 c.loop-count.count c.loop-count.invariant c.loop-count-test.false
    ∙ repeats_are (c.args.tick + 1) c.args.lane.now (somes c.args.slots.now.items)
