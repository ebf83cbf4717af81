use Rattle.run_audit.proofs.Sound.{ledgers_are_true}
use Rattle.run_audit.proofs.laws.law_ledgers_are_true.Goals as goal

pub returns : goal.returns
returns c = ledgers_are_true
