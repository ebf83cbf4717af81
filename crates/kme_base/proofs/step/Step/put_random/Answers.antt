use Rattle.std.proofs.Common.{List, sym, subst, Ok}
use Rattle.net_model.specs.declared.record.Record.{Record}
use Rattle.kme_base.specs.Random.{decision_over}
use Rattle.kme_base.specs.Steps.{IsStep}
use Rattle.kme_base.proofs.Overs.{step_over}
use Rattle.kme_base.proofs.step.Step.put_random.Goals as goal

pub returns-clause-decided : goal.returns-clause-decided
returns-clause-decided c v placings d h =
    subst (λ (rs : List Record). IsStep v placings (decision_over c.args.random.now d) (Ok (record c.args.self.now { batch = rs })))
    (sym c.write_random.ensures) (step_over v placings d c.args.self.now c.args.random.now h)
