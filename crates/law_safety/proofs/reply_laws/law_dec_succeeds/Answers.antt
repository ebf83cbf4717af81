use Rattle.law_safety.proofs.Success.{dec_succeeds}
use Rattle.law_safety.proofs.reply_laws.law_dec_succeeds.Goals as goal

pub returns : goal.returns
returns c = dec_succeeds
