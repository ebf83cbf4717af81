use Rattle.law_base.proofs.Growth.{entry_stays}
use Rattle.law_base.proofs.Lasting.{step_more}
use Rattle.net_model.specs.Step.{step}
use Rattle.world_nodes.proofs.lane_laws.law_entry_stays.Goals as goal

pub returns : goal.returns
returns c net w a v e r h = entry_stays net w r.network r.conserved (step net w a).0 (step_more net w a) v e h
