use Rattle.law_base.proofs.Owners.{one_byte}
use Rattle.law_base.proofs.lane_laws.law_no_byte_twice.Goals as goal

pub returns : goal.returns
returns c = λ net w k l i j x. one_byte w.durable.facts (w.durable.own l) (w.frames l) _ (k.now.owned l) i j x
