use Rattle.law_run.proofs.Telling.{no_more, still_first, pieces_joined}
use Rattle.law_run.proofs.course_laws.law_reported.Goals as goal

pub returns-clause-done : goal.returns-clause-done
returns-clause-done c = λ http scenario workers course old new whole took. (whole, no_more http scenario workers course old new took)

pub returns-clause-forged : goal.returns-clause-forged
returns-clause-forged c = λ http scenario workers line course old new forged took. (forged, took)

pub returns-clause-failed : goal.returns-clause-failed
returns-clause-failed c = λ http scenario workers course old new took. still_first http scenario workers course old new took

pub returns-clause-memory : goal.returns-clause-memory
returns-clause-memory c = λ http scenario workers course old new took. still_first http scenario workers course old new took

pub returns-clause-text : goal.returns-clause-text
returns-clause-text c = λ nodes items. pieces_joined nodes items
