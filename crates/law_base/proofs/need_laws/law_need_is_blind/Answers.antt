use Rattle.law_base.proofs.Blind.{needed_alike, needed_blind}
use Rattle.law_base.proofs.need_laws.law_need_is_blind.Goals as goal

pub returns-clause-view : goal.returns-clause-view
returns-clause-view c = needed_alike

pub returns-clause-fact : goal.returns-clause-fact
returns-clause-fact c = needed_blind
