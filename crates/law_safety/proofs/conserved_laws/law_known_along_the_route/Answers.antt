use Rattle.std.proofs.Common.{◌≡◌, subst}
use Rattle.net_model.specs.declared.fact.Fact.{Fact}
use Rattle.net_model.specs.Table.{route_of}
use Rattle.net_model.specs.Knowledge.{IsOn}
use Rattle.law_safety.proofs.Before.{knowers}
use Rattle.law_safety.proofs.conserved_laws.law_known_along_the_route.Goals as goal

pub returns : goal.returns
returns c = λ net w k n f v there knows.
    let x = k.now.knowledge.each v n knows in
    let same : x.fact ≡ f = cc in
    (subst (λ (g : Fact). IsOn (route_of g) v) same x.on, knowers net w k n f v there knows)
