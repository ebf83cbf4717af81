use Rattle.model_examples.proofs.TickRowsProofs.{one_key, empty_lanes, heard_again, any_order, full_lane, short_lane, few_bytes, refused_put, ages, many_repeats, down_link}
use Rattle.model_examples.proofs.rows.tick_rows.Goals as goal

pub returns-clause-one_key : goal.returns-clause-one_key
returns-clause-one_key c = one_key

pub returns-clause-empty_lanes : goal.returns-clause-empty_lanes
returns-clause-empty_lanes c = empty_lanes

pub returns-clause-heard_again : goal.returns-clause-heard_again
returns-clause-heard_again c = heard_again

pub returns-clause-any_order : goal.returns-clause-any_order
returns-clause-any_order c = any_order

pub returns-clause-full_lane : goal.returns-clause-full_lane
returns-clause-full_lane c = full_lane

pub returns-clause-short_lane : goal.returns-clause-short_lane
returns-clause-short_lane c = short_lane

pub returns-clause-few_bytes : goal.returns-clause-few_bytes
returns-clause-few_bytes c = few_bytes

pub returns-clause-refused_put : goal.returns-clause-refused_put
returns-clause-refused_put c = refused_put

pub returns-clause-ages : goal.returns-clause-ages
returns-clause-ages c = ages

pub returns-clause-many_repeats : goal.returns-clause-many_repeats
returns-clause-many_repeats c = many_repeats

pub returns-clause-down_link : goal.returns-clause-down_link
returns-clause-down_link c = down_link
