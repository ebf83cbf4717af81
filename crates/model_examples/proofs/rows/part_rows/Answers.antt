use Rattle.model_examples.proofs.PartRowsProofs.{two_plans, acked_meanwhile, full_pools, asked_elsewhere, walks, lane_bytes}
use Rattle.model_examples.proofs.rows.part_rows.Goals as goal

pub returns-clause-two_plans : goal.returns-clause-two_plans
returns-clause-two_plans c = two_plans

pub returns-clause-acked_meanwhile : goal.returns-clause-acked_meanwhile
returns-clause-acked_meanwhile c = acked_meanwhile

pub returns-clause-full_pools : goal.returns-clause-full_pools
returns-clause-full_pools c = full_pools

pub returns-clause-asked_elsewhere : goal.returns-clause-asked_elsewhere
returns-clause-asked_elsewhere c = asked_elsewhere

pub returns-clause-walks : goal.returns-clause-walks
returns-clause-walks c = walks

pub returns-clause-lane_bytes : goal.returns-clause-lane_bytes
returns-clause-lane_bytes c = lane_bytes
