use Rattle.law_lives.proofs.Courses.{left_have_one_world, any_choice}
use Rattle.law_lives.proofs.Unstarted.{first_current}
use Rattle.law_lives.proofs.course_laws.law_run_leaves_one_world.Goals as goal

pub returns-clause-first : goal.returns-clause-first
returns-clause-first c = first_current

pub returns-clause-world : goal.returns-clause-world
returns-clause-world c = λ net begin actions images journals network begins current r left sized.
    left_have_one_world net begin actions network begins r current images left journals sized

pub returns-clause-choice : goal.returns-clause-choice
returns-clause-choice c = λ net begin actions made network begins r may. any_choice net begin actions network begins r made may
