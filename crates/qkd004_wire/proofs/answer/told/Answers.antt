use Rattle.std.proofs.Common.{◌∙◌}
use Rattle.qkd004_wire.specs.Answer.{call_of, told}
use Rattle.qkd004_wire.proofs.Refused.{refused_told}
use Rattle.qkd004_wire.proofs.answer.told.Goals as goal

pub returns-in_default : goal.returns-in_default
unfolding told
returns-in_default c = c.refused_call.ensures ∙ refused_told (call_of c.args.event.now) c.args.reply.now c.in_default.not-Stream
