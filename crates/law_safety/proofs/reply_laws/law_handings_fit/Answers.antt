use Rattle.law_safety.proofs.Rooms.{hands_fit}
use Rattle.law_safety.proofs.reply_laws.law_handings_fit.Goals as goal

pub returns : goal.returns
returns c = hands_fit
