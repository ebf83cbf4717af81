use Rattle.kme_node.proofs.Whole.{formed_whole}
use Rattle.kme_node.proofs.laws.law_formed_batches_are_whole.Goals as goal

pub returns : goal.returns
returns c batch formed = formed_whole batch formed
