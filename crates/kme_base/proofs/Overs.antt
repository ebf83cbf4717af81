-- If a step is a decision, then the step with other octets is the decision over these octets.
use Rattle.std.proofs.Common.{ℕ, List, ap, Ok}
use Rattle.net_model.specs.declared.placing.Placing.{Placing}
use Rattle.net_model.specs.View.{View}
use Rattle.net_model.specs.Decision.{Decision, Refuses, Does}
use Rattle.kme_base.specs.declared.step.Step.{Step}
use Rattle.kme_base.specs.Random.{with_random, decision_over}
use Rattle.kme_base.specs.Steps.{IsStep}

pub step_over : (v : View) (placings : List Placing) (d : Decision) (s : Step) (random : List ℕ) → IsStep v placings d (Ok s) →
    IsStep v placings (decision_over random d) (Ok (record s { batch = with_random random s.batch }))
step_over v placings (Refuses r) s random h = h
step_over v placings (Does e) s random h = record {
  batch = ap (with_random random) h.batch;
  reply = h.reply;
  orders = h.orders;
  volatile = h.volatile;
}
