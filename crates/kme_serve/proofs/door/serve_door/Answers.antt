use Rattle.std.proofs.Common.{◌∙◌, arith}
use Rattle.kme_serve.proofs.Visits.{next_served}
use Rattle.kme_serve.proofs.door.serve_door.Goals as goal

pub visits-preserved : goal.visits-preserved
visits-preserved g c =
    let before = c.visits.invariant in
    let came = c.in_ok-serve_next.ensures.served in
    record {
      few = omega (arith, c.are_served.ensures.some);
      fits = c.in_ok-serve_next.ensures.fits;
      budget = omega (arith, c.in_ok-serve_next.ensures.budget, before.budget);
      accepted = omega (arith, came.accepted, came.count, before.accepted);
      finished = omega (arith, came.finished, came.count, before.finished);
      calm = c.in_ok-serve_next.ensures.calm ∙ before.calm;
      visits = next_served _ _ _ _ _ c.visits.served _ _ _ _ _ _ tt tt before.visits came;
    }
