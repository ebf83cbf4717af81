use Rattle.std.proofs.Common.{◌∙◌, ap}
use Rattle.relay_core.specs.Knowledge.{Knowledge}
use Rattle.relay_core.proofs.Forgotten.{known_forgotten}
use Rattle.relay_core.proofs.known.Known.forget.Goals as goal

pub invariant_of-self : goal.invariant_of-self
invariant_of-self c =
    known_forgotten c.self.inside.me c.self.inside.facts.items c.wipe_at.new.facts.items c.self.inside.acked.items c.self.inside.index c.self.inside.listed c.self.inside.last c.args.place
    c.self.invariant c.wipe_at.ensures.facts

pub returns-clause-kept : goal.returns-clause-kept
returns-clause-kept c = (
  ap (λ (k : Knowledge). k.me) c.self.view_is,
  ap (λ (k : Knowledge). k.acked) c.self.view_is,
  c.wipe_at.ensures.spare
      ∙ ap (λ (k : Knowledge). k.facts_spare) c.self.view_is,
  ap (λ (k : Knowledge). k.acked_spare) c.self.view_is,
)
