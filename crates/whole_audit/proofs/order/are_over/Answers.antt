use Rattle.std.proofs.Common.{ap, sym, ◌∙◌, arith}
use Rattle.std.specs.List.{list_all}
use Rattle.whole_audit.specs.Order.{is_over}
use Rattle.whole_audit.specs.Kept.{has_number}
use Rattle.whole_audit.proofs.Walking.{over_here, not_all_over, drop_end}
use Rattle.whole_audit.proofs.order.are_over.Goals as goal

pub returns-then-not-is_over : goal.returns-then-not-is_over
returns-then-not-is_over c =
    sym (not_all_over (has_number c.args.came.now) (has_number c.args.owing.now) c.args.entries.now c.loop-place.place c.index-entries-place.result (omega arith) c.index-entries-place.is (sym c.is_over.ensures ∙ c.if-not-is_over.true))
    ∙ c.loop-place.invariant

pub loop-place-preserved : goal.loop-place-preserved
loop-place-preserved c =
    over_here (has_number c.args.came.now) (has_number c.args.owing.now) c.args.entries.now c.loop-place.place c.index-entries-place.result (omega arith) c.index-entries-place.is (sym c.is_over.ensures ∙ c.if-not-is_over.false)
    ∙ c.loop-place.invariant

pub returns : goal.returns
returns c = sym (ap (list_all (is_over (has_number c.args.came.now) (has_number c.args.owing.now))) (drop_end c.args.entries.now c.loop-place.place (omega arith))) ∙ c.loop-place.invariant
