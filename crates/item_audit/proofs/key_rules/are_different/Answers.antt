use Rattle.std.proofs.Common.{sym, ◌∙◌, arith}
use Rattle.item_audit.proofs.HandedNames.{one_fewer}
use Rattle.item_audit.proofs.key_rules.are_different.Goals as goal

pub loop-steps-preserved : goal.loop-steps-preserved
loop-steps-preserved c = one_fewer c.args.names.now c.args.count c.loop-steps.steps (omega arith) (sym c.repeats_at.ensures ∙ c.if-repeats_at.false) ∙ c.loop-steps.invariant
