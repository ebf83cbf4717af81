use Rattle.std.proofs.Common.{List, ℕ, ap, sym, ◌∙◌}
use Rattle.std.specs.Option.{option_copied}
use Rattle.qkd_base.specs.Route.{next_after}
use Rattle.net_model.specs.Table.{route_of}
use Rattle.relay_core.specs.Knowledge.{Knowledge}
use Rattle.relay_core.proofs.Acknowledged.{unowed_creditor}
use Rattle.relay_core.proofs.known.Known.creditor_at.Goals as goal

pub returns-else-owes_at : goal.returns-else-owes_at
returns-else-owes_at c =
    unowed_creditor c.args.self.now.me c.args.self.now.facts c.args.self.now.acked c.args.place c.in-Some-next_after.to c.in-Some.fact.now c.owes_at.result
    (sym c.at.ensures ∙ ap option_copied c.in-Some.is)
    (sym (c.next_after.ensures ∙ ap (λ (r : List ℕ). next_after r c.self.inside.me) c.fact_route.ensures ∙ ap (λ (k : Knowledge). next_after (route_of c.in-Some.fact.now) k.me) c.self.view_is) ∙ c.in-Some-next_after.is)
    c.owes_at.ensures c.if-owes_at.false
