use Rattle.std.proofs.Common.{refl}
use Rattle.run_model.specs.Course.{Serve, whole_run, last_world}
use Rattle.net_model.specs.World.{first}
use Rattle.law_run.proofs.Resting.{first_begins}
use Rattle.net_world.specs.New.{network_on}
use Rattle.net_serve.specs.ServedRun.{course_on}
use Rattle.net_serve.proofs.bench.law_bench_serves.Goals as goal

pub returns : goal.returns
returns g c http scenario workers connections port stop old new before after done served h lines follows told cut =
    let net = network_on g.Q.Device g.E.Entropy old scenario.site in
    let course = course_on g.Q.Device g.E.Entropy old scenario done served in
    let benched = c.law_bench_begins.ensures.benched old scenario h.fresh h.declared in
    let is = c.law_served_lines_make_a_course.ensures http scenario workers connections port net first done served benched (first_begins net) lines follows in
    let reported = c.law_reported_of_serve.ensures workers connections port stop http scenario course before after told in
    record {
      net = refl;
      begin = refl;
      holds = λ reading seen reads on. c.law_headline_of_a_course.ensures (Serve workers connections port) stop http reading scenario course seen before after is reported
          (c.law_bench_is_seen.ensures reading old new scenario.site (whole_run course) (last_world course) seen h is.steps refl reads on);
      cut = cut;
    }
