use Rattle.std.proofs.Common.{refl}
use Rattle.run_model.specs.Course.{Run, Load}
use Rattle.law_run.specs.Benched.{lines_alone}
use Rattle.law_run.proofs.course_laws.law_tasks_make_a_course.Goals as goal

pub returns-clause-run : goal.returns-clause-run
returns-clause-run c = λ http scenario workers net begin done b begins lines. record {
  network = b.network;
  begins = begins;
  scenario_is = tt;
  site = b.site;
  lines = lines;
  served = refl;
  steps = c.law_course_is_run.ensures (Run workers) http scenario (lines_alone net begin done) b.network begins.conserved lines refl;
}

pub returns-clause-load : goal.returns-clause-load
returns-clause-load c = λ http scenario rounds net begin done is b begins lines. record {
  network = b.network;
  begins = begins;
  scenario_is = is;
  site = b.site;
  lines = lines;
  served = refl;
  steps = c.law_course_is_run.ensures (Load rounds) http scenario (lines_alone net begin done) b.network begins.conserved lines refl;
}
