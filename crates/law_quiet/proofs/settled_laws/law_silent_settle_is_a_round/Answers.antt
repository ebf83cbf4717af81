use Rattle.law_quiet.proofs.SilentSettles.{silent_line}
use Rattle.law_quiet.proofs.settled_laws.law_silent_settle_is_a_round.Goals as goal

pub returns : goal.returns
returns c = λ net w number rounds actions some plays whole items. silent_line net number w rounds actions some plays (record { items = items; whole = whole })
