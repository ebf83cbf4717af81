use Rattle.law_run.proofs.course_laws.law_keys_of_a_course.Goals as goal

pub returns : goal.returns
returns c = λ words http scenario course h. c.law_keys_and_bytes.ensures course h.network h.begins h.steps
