use Rattle.run_model.specs.Course.{whole_run}
use Rattle.law_run.proofs.Folds.{made_gives_back, is_fold}
use Rattle.law_run.proofs.Resting.{rest_fits}
use Rattle.law_run.proofs.course_laws.law_disks_of_a_course.Goals as goal

pub returns-clause-made : goal.returns-clause-made
returns-clause-made c = λ net w actions v before network conserved fits given r. made_gives_back net network v actions w conserved fits r before given

pub returns-clause-fold : goal.returns-clause-fold
returns-clause-fold c = λ words http scenario course h v before given committed batches may kept.
    is_fold course.net course.begin (whole_run course) v before h.network h.begins.conserved (rest_fits course.net course.begin h.begins.rest) given h.steps committed batches may kept
