use Rattle.std.proofs.Common.{ap, sym, ◌∙◌, arith}
use Rattle.whole_audit.specs.Order.{left_behind}
use Rattle.whole_audit.specs.Kept.{has_number}
use Rattle.whole_audit.proofs.Walking.{taken_here, not_over_here, further, drop_end}
use Rattle.whole_audit.proofs.order.taker.Goals as goal

pub returns-then-takes : goal.returns-then-takes
returns-then-takes c =
    sym c.loop-place.invariant
    ∙ taken_here (has_number c.args.came.now) (has_number c.args.owing.now) c.args.entries.now c.loop-place.place c.index-entries-place.result (omega arith) c.index-entries-place.is c.args.number (sym c.takes.ensures ∙ c.if-takes.true)

pub returns-then-not-is_over : goal.returns-then-not-is_over
returns-then-not-is_over c =
    sym c.loop-place.invariant
    ∙ not_over_here (has_number c.args.came.now) (has_number c.args.owing.now) c.args.entries.now c.loop-place.place c.index-entries-place.result (omega arith) c.index-entries-place.is c.args.number (sym c.takes.ensures ∙ c.if-takes.false) (sym c.is_over.ensures ∙ c.if-not-is_over.true)

pub loop-place-preserved : goal.loop-place-preserved
loop-place-preserved c =
    further (has_number c.args.came.now) (has_number c.args.owing.now) c.args.entries.now c.loop-place.place c.index-entries-place.result (omega arith) c.index-entries-place.is c.args.number (sym c.takes.ensures ∙ c.if-takes.false) (sym c.is_over.ensures ∙ c.if-not-is_over.false)
    ∙ c.loop-place.invariant

pub returns : goal.returns
returns c = sym c.loop-place.invariant ∙ ap (left_behind (has_number c.args.came.now) (has_number c.args.owing.now) c.args.number) (drop_end c.args.entries.now c.loop-place.place (omega arith))
