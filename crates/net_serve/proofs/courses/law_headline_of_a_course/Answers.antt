use Rattle.law_run.proofs.Together.{headline}
use Rattle.net_serve.proofs.courses.law_headline_of_a_course.Goals as goal

pub returns : goal.returns
returns c = λ words stop http reading scenario course seen old new is reported sees.
    headline words http scenario course is reading seen sees stop old new reported (c.law_keys_of_a_course.ensures words http scenario course is)
