use Rattle.std.proofs.Common.{◌≡◌, sym, ap, ◌∙◌}
use Rattle.net_model.specs.World.{World}
use Rattle.net_model.specs.Action.{Outcome}
use Rattle.law_invariant.proofs.step_laws.law_one_outcome.Goals as goal

pub returns : goal.returns
returns c = λ net w new other a said other_said h k.
    let same : (new, said) ≡ (other, other_said) = sym h ∙ k in
    (ap (λ (r : World × Outcome). r.0) same, ap (λ (r : World × Outcome). r.1) same)
