use Rattle.std.proofs.Common.{List, ◌∙◌, ap}
use Rattle.net_model.specs.declared.fact.Fact.{Fact}
use Rattle.net_model.specs.Table.{has_fact}
use Rattle.relay_core.specs.Knowledge.{Knowledge}
use Rattle.relay_core.proofs.Kept.{known_named}
use Rattle.relay_core.proofs.known.Known.last_count.Goals as goal

pub returns-clause-named : goal.returns-clause-named
returns-clause-named c n h =
    let e = ap (λ (k : Knowledge). k.facts) c.self.view_is in
    known_named c.self.inside.facts.items n c.self.invariant.distinct (ap (λ (fs : List Fact). has_fact fs n) e ∙ h)
