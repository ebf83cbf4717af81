use Rattle.std.proofs.Common.{Option, ap}
use Rattle.qkd_base.specs.Name.{name_eq}
use Rattle.net_model.specs.declared.fact.Fact.{Fact}
use Rattle.net_model.specs.Table.{name_of}
use Rattle.relay_core.specs.Index.{creditor_of}
use Rattle.relay_core.proofs.Firsts.{none_find}
use Rattle.relay_core.proofs.Kept.{unowed_acked}
use Rattle.relay_core.proofs.known.Known.acknowledge.Goals as goal

pub returns-in-None-clause-acked : goal.returns-in-None-clause-acked
returns-in-None-clause-acked c =
    unowed_acked c.args.self.now.me c.args.self.now.acked c.args.self.now.facts c.args.name c.len-holds.ensures.distinct
    (ap (λ (o : Option Fact). creditor_of c.args.self.now.me c.args.self.now.acked o) (none_find (λ f. name_eq (name_of f) c.args.name) c.args.self.now.facts c.in-None.ensures.none))
