use Rattle.law_safety.proofs.Replies.{handled_true}
use Rattle.law_safety.proofs.reply_laws.law_replies_true.Goals as goal

pub returns : goal.returns
returns c = handled_true
