use Rattle.law_lives.proofs.FolderLives.{earlier_over, life_belongs, kept_next}
use Rattle.law_lives.proofs.folder_laws.law_folder_lives_go_on.Goals as goal

pub returns-clause-earlier : goal.returns-clause-earlier
returns-clause-earlier c = λ ls are i j a b less at at2. earlier_over ls are i j a b less at at2

pub returns-clause-course : goal.returns-clause-course
returns-clause-course c = λ words stop http reading scenario seen old new course journals h behind one. record { begins = h.run.begins; behind = behind; life = one.life }

pub returns-clause-belong : goal.returns-clause-belong
returns-clause-belong c = λ l views begins read. life_belongs l views begins read

pub returns-clause-kept : goal.returns-clause-kept
returns-clause-kept c = λ l sealing devices entropies views journals actions images made later read b. kept_next l sealing devices entropies views journals actions images made later read b
