use Rattle.std.proofs.Common.{sym, ◌∙◌}
use Rattle.whole_audit.specs.Order.{left}
use Rattle.whole_audit.proofs.Tracking.{no_block}
use Rattle.whole_audit.proofs.order.Walk.is_in_block.Goals as goal

pub returns-then-not-stands : goal.returns-then-not-stands
returns-then-not-stands c before stands walk = no_block (left c.args.scenario.now before) (sym stands ∙ c.if-not-stands.true)
