use Rattle.law_lives.proofs.Courses.{headline_has_one_world}
use Rattle.law_lives.proofs.course_laws.law_headline_has_one_world.Goals as goal

pub returns : goal.returns
returns c = λ words stop http reading scenario seen old new course journals h current sized. headline_has_one_world words stop http reading scenario seen old new course h current journals sized
