use Rattle.std.proofs.Common.{sym, subst}
use Rattle.std.specs.Prelude.{IfOk}
use Rattle.net_model.specs.declared.reply.Reply.{Reply}
use Rattle.qkd014_api.specs.Answers.{answer_of}
use Rattle.kme_serve.specs.Steps.{IsTextOf}
use Rattle.kme_serve.proofs.request_answer.text_of.Goals as goal

pub returns-in-Handed-clause-ok : goal.returns-in-Handed-clause-ok
returns-in-Handed-clause-ok c =
    subst (λ (r : Reply). IfOk c.into_text.result (IsTextOf (answer_of c.args.api.now.nodes c.args.api.now.entitlements c.args.turn.now.event r) c.args.close)) (sym c.in-Handed.is) c.into_text.ensures.ok
