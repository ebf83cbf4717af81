use Rattle.std.proofs.Common.{inl, inr, ℕ, List}
use Rattle.net_model.specs.Action.{Action}
use Rattle.net_model.specs.World.{Network, World}
use Rattle.run_model.specs.Report.{Performed}
use Rattle.run_model.specs.Turn.{HttpTexts}
use Rattle.run_model.specs.Course.{Serve, AreServed}
use Rattle.run_types.specs.declared.scenario.Scenario.{Scenario}
use Rattle.net_serve.specs.ServedRun.{course_of, MayFollow}
use Rattle.net_serve.proofs.courses.law_served_lines_make_a_course.Goals as goal

are_served : (http : HttpTexts) (scenario : Scenario) (workers connections port : ℕ) (net : Network) (begin : World) (done : List Performed) (served : List (List Action)) →
    MayFollow http scenario net begin done served → AreServed (Serve workers connections port) http scenario (course_of net begin done served)
are_served http scenario workers connections port net begin done served (inl none) = inl none
are_served http scenario workers connections port net begin done served (inr asked) = inr (asked.whole, asked.nodes, asked.chains, asked.requests)

pub returns : goal.returns
returns c = λ http scenario workers connections port net begin done served b begins lines follows.
    let behind = are_served http scenario workers connections port net begin done served follows in
    record {
      network = b.network;
      begins = begins;
      scenario_is = tt;
      site = b.site;
      lines = lines;
      served = behind;
      steps = c.law_course_is_run.ensures (Serve workers connections port) http scenario (course_of net begin done served) b.network begins.conserved lines behind;
    }
