use Rattle.model_examples.proofs.StartRowsProofs.{leases, plan_committed, plan_lost, handing_committed, handing_lost, drawn_stays, new_life, own_counts}
use Rattle.model_examples.proofs.rows.start_rows.Goals as goal

pub returns-clause-leases : goal.returns-clause-leases
returns-clause-leases c = leases

pub returns-clause-plan_committed : goal.returns-clause-plan_committed
returns-clause-plan_committed c = plan_committed

pub returns-clause-plan_lost : goal.returns-clause-plan_lost
returns-clause-plan_lost c = plan_lost

pub returns-clause-handing_committed : goal.returns-clause-handing_committed
returns-clause-handing_committed c = handing_committed

pub returns-clause-handing_lost : goal.returns-clause-handing_lost
returns-clause-handing_lost c = handing_lost

pub returns-clause-drawn_stays : goal.returns-clause-drawn_stays
returns-clause-drawn_stays c = drawn_stays

pub returns-clause-new_life : goal.returns-clause-new_life
returns-clause-new_life c = new_life

pub returns-clause-own_counts : goal.returns-clause-own_counts
returns-clause-own_counts c = own_counts
