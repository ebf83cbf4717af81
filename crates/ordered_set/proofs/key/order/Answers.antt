use Rattle.std.proofs.Common.{◌∙◌, arith, sym}
use Rattle.ordered_set.proofs.Order.{all_equal, first_unequal}
use Rattle.ordered_set.proofs.key.order.Goals as goal

pub returns-then-a-i : goal.returns-then-a-i
returns-then-a-i c = c.cmp.ensures ∙ sym (first_unequal c.args.a.now c.args.b.now c.loop-i.i (omega arith) (omega arith) c.loop-i.invariant c.if-a-i.true)

pub returns : goal.returns
returns c = sym (all_equal c.args.a.now c.args.b.now (omega arith) (λ k lt. c.loop-i.invariant k (omega arith)))
