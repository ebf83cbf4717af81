use Rattle.law_quiet.proofs.Readiness.{is_ready, is_known}
use Rattle.law_quiet.proofs.quiet_laws.law_keys_are_ready.Goals as goal

pub returns-clause-pool : goal.returns-clause-pool
returns-clause-pool c = λ net w n f m t bits conserved there key back kept. is_ready net w conserved n f m t bits there key back kept

pub returns-clause-known : goal.returns-clause-known
returns-clause-known c = λ net w n f m t bits conserved there key came. is_known net w conserved n f m t bits there key came
