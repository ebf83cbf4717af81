use Rattle.law_safety.proofs.Success.{enc_succeeds}
use Rattle.law_safety.proofs.reply_laws.law_enc_succeeds.Goals as goal

pub returns : goal.returns
returns c = enc_succeeds
