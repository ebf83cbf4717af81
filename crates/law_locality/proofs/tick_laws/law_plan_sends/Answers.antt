use Rattle.law_locality.proofs.Planning.{plan_goes, plan_noted, plan_rests}
use Rattle.law_locality.proofs.tick_laws.law_plan_sends.Goals as goal

pub returns-clause-planned : goal.returns-clause-planned
returns-clause-planned c = plan_goes

pub returns-clause-noted : goal.returns-clause-noted
returns-clause-noted c = plan_noted

pub returns-clause-otherwise : goal.returns-clause-otherwise
returns-clause-otherwise c = plan_rests
