use Rattle.law_lives.proofs.Behind.{first_behind}
use Rattle.law_lives.proofs.LeftViews.{views_belong, left_belong, seen_belong, later_belong, kept_behind}
use Rattle.law_lives.proofs.kept_laws.law_left_views_belong.Goals as goal

pub returns-clause-world : goal.returns-clause-world
returns-clause-world c = λ net w batches views conserved behind read given. views_belong net w batches views conserved behind read given

pub returns-clause-left : goal.returns-clause-left
returns-clause-left c = λ net begin actions images views network begins current behind r left read. left_belong net begin actions images views network begins current behind r left read

pub returns-clause-seen : goal.returns-clause-seen
returns-clause-seen c = λ words stop http reading scenario seen old new course images views h current behind at none read.
    seen_belong words stop http reading scenario seen old new course images views h current behind at none read

pub returns-clause-more : goal.returns-clause-more
returns-clause-more c = λ s earlier later views b same. later_belong s earlier later views b same

pub returns-clause-first : goal.returns-clause-first
returns-clause-first c = first_behind

pub returns-clause-kept : goal.returns-clause-kept
returns-clause-kept c = λ s sealing devices entropies batches views journals read. kept_behind s sealing devices entropies batches views journals read
