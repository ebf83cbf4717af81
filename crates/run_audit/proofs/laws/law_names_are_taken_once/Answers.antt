use Rattle.run_audit.proofs.Sound.{names_are_taken_once}
use Rattle.run_audit.proofs.laws.law_names_are_taken_once.Goals as goal

pub returns : goal.returns
returns c = names_are_taken_once
