use Rattle.kme_node.proofs.Replies.{no_room}
use Rattle.kme_node.proofs.step_memory.room_plan.Goals as goal

pub returns-in_default-clause-ok : goal.returns-in_default-clause-ok
returns-in_default-clause-ok c = no_room c.args.window.now c.args.reply.now c.in_default.not-Planned
