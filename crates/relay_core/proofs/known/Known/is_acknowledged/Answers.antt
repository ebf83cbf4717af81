use Rattle.std.proofs.Common.{◌≡◌, true, subst}
use Rattle.qkd_base.specs.Name.{Name, has}
use Rattle.net_model.specs.Table.{has_fact}
use Rattle.relay_core.specs.Knowledge.{Knowledge}
use Rattle.relay_core.proofs.Acknowledged.{unknown_unacked, named_acked}
use Rattle.relay_core.proofs.known.Known.is_acknowledged.Goals as goal

pub returns-in-None : goal.returns-in-None
returns-in-None c =
    unknown_unacked c.args.self.now.facts c.args.self.now.acked c.args.name
    (subst (λ (k : Knowledge). (m : Name) → has k.acked m ≡ true → has_fact k.facts m ≡ true) c.self.view_is c.self.invariant.known) c.in-None.ensures.none

pub returns-in-Some : goal.returns-in-Some
returns-in-Some c =
    named_acked c.args.self.now.facts c.args.self.now.acked c.args.name c.in-Some.place c.is_acknowledged_at.result c.in-Some.ensures.first c.is_acknowledged_at.ensures
