use Rattle.run_audit.proofs.Sound.{keys_are_handed_once}
use Rattle.run_audit.proofs.laws.law_keys_are_handed_once.Goals as goal

pub returns : goal.returns
returns c = keys_are_handed_once
