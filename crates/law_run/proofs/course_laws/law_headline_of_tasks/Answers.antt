use Rattle.run_model.specs.Course.{Run, Load}
use Rattle.law_run.specs.Benched.{lines_alone}
use Rattle.law_run.proofs.Together.{is_reported, seen_of_course, headline}
use Rattle.law_run.proofs.course_laws.law_headline_of_tasks.Goals as goal

pub returns-clause-run : goal.returns-clause-run
returns-clause-run c = λ http scenario workers stop reading seen old new net begin done b begins lines told h.
    let course = lines_alone net begin done in
    let run = c.law_tasks_make_a_course.ensures.run http scenario workers net begin done b begins lines in
    let world = c.law_lines_are_the_whole.ensures.world http scenario workers net begin done b begins.conserved lines in
    headline (Run workers) http scenario course run reading seen (seen_of_course reading net begin done seen _ world h) stop old new
    (is_reported http scenario workers course old new stop told) (c.law_keys_of_a_course.ensures (Run workers) http scenario course run)

pub returns-clause-load : goal.returns-clause-load
returns-clause-load c = λ http scenario rounds stop reading seen old new net begin done is b begins lines told h.
    let course = lines_alone net begin done in
    let run = c.law_tasks_make_a_course.ensures.load http scenario rounds net begin done is b begins lines in
    let world = c.law_lines_are_the_whole.ensures.world http scenario 1 net begin done b begins.conserved lines in
    headline (Load rounds) http scenario course run reading seen (seen_of_course reading net begin done seen _ world h) stop old new told
    (c.law_keys_of_a_course.ensures (Load rounds) http scenario course run)
