use Rattle.law_recovery.proofs.Starts.{reads_back, finds}
use Rattle.law_recovery.proofs.start_laws.law_start_succeeds.Goals as goal

pub returns-clause-recovers : goal.returns-clause-recovers
returns-clause-recovers c = λ net w v committed m may. reads_back net w v m committed may

pub returns-clause-resumes : goal.returns-clause-resumes
returns-clause-resumes c = λ net w v committed m stopped k. finds net w v m committed stopped k
