use Rattle.law_safety.proofs.Steps.{octets_placed, first_placed}
use Rattle.law_safety.proofs.entropy_laws.law_octets_go_once.Goals as goal

pub returns-clause-first : goal.returns-clause-first
returns-clause-first c = first_placed

pub returns-clause-run : goal.returns-clause-run
returns-clause-run c = octets_placed
