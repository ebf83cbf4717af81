use Rattle.law_recovery.proofs.Runs.{start_needs, found_needs, resume_needs}
use Rattle.law_recovery.proofs.recovery_laws.law_start_checkpoints_what_it_gives_back.Goals as goal

pub returns-clause-recovers : goal.returns-clause-recovers
returns-clause-recovers c = λ net w v committed conserved down enabled. start_needs net w v committed conserved down enabled

pub returns-clause-found : goal.returns-clause-found
returns-clause-found c = λ net w v committed conserved down enabled. found_needs net w v committed conserved down enabled

pub returns-clause-resumes : goal.returns-clause-resumes
returns-clause-resumes c = λ net w v committed conserved down enabled. resume_needs net w v committed conserved down enabled
