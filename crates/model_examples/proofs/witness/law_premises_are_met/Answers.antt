use Rattle.model_examples.proofs.Networks.{is_network}
use Rattle.model_examples.proofs.Running.{runs, relays, hands, doubts, blocks, blocks_of_lines}
use Rattle.model_examples.proofs.witness.law_premises_are_met.Goals as goal

pub returns-clause-network : goal.returns-clause-network
returns-clause-network c = is_network c.frames_of_a_network.ensures

pub returns-clause-runs : goal.returns-clause-runs
returns-clause-runs c = runs

pub returns-clause-relays : goal.returns-clause-relays
returns-clause-relays c = relays

pub returns-clause-hands : goal.returns-clause-hands
returns-clause-hands c = hands

pub returns-clause-doubts : goal.returns-clause-doubts
returns-clause-doubts c = doubts

pub returns-clause-blocks : goal.returns-clause-blocks
returns-clause-blocks c = blocks

pub returns-clause-blocks_of_lines : goal.returns-clause-blocks_of_lines
returns-clause-blocks_of_lines c = blocks_of_lines
