use Rattle.std.proofs.Common.{sym}
use Rattle.kme_node.proofs.Replies.{no_plan}
use Rattle.kme_node.proofs.step_effects.plan_window.Goals as goal

pub returns-in_default : goal.returns-in_default
returns-in_default c = sym (no_plan c.args.reply.now c.args.window.now.volatile c.in_default.not-Planned)
