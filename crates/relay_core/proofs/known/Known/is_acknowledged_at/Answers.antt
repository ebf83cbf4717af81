use Rattle.std.proofs.Common.{◌≡◌, ℕ, List, Some, true, ◌∙◌, sym, ap, subst}
use Rattle.std.specs.Prelude.{slice_get, is_some}
use Rattle.std.specs.Option.{option_copied}
use Rattle.qkd_base.specs.Name.{has}
use Rattle.qkd_base.specs.Route.{next_after}
use Rattle.net_model.specs.declared.fact.Fact.{Fact}
use Rattle.net_model.specs.Table.{name_of, route_of}
use Rattle.relay_core.specs.Knowledge.{Knowledge}
use Rattle.relay_core.proofs.Acknowledged.{ended_unacked, told_acked}
use Rattle.relay_core.proofs.known.Known.is_acknowledged_at.Goals as goal

pub returns-in-None-next_after : goal.returns-in-None-next_after
returns-in-None-next_after c =
    ended_unacked c.args.self.now.me c.args.self.now.facts c.args.self.now.acked c.args.place c.in-Some.fact.now
    (subst (λ (k : Knowledge). (i : ℕ) (g : Fact) → slice_get k.facts i ≡ Some g → has k.acked (name_of g) ≡ true → is_some (next_after (route_of g) k.me) ≡ true) c.self.view_is c.self.invariant.told)
    (sym c.at.ensures ∙ ap option_copied c.in-Some.is)
    (sym (c.next_after.ensures ∙ ap (λ (r : List ℕ). next_after r c.self.inside.me) c.fact_route.ensures ∙ ap (λ (k : Knowledge). next_after (route_of c.in-Some.fact.now) k.me) c.self.view_is) ∙ c.in-None-next_after.is)

pub returns-in-Some-next_after : goal.returns-in-Some-next_after
returns-in-Some-next_after c =
    told_acked c.args.self.now.me c.args.self.now.facts c.args.self.now.acked c.args.place c.in-Some-next_after.to c.in-Some.fact.now c.owes_at.result
    (sym c.at.ensures ∙ ap option_copied c.in-Some.is)
    (sym (c.next_after.ensures ∙ ap (λ (r : List ℕ). next_after r c.self.inside.me) c.fact_route.ensures ∙ ap (λ (k : Knowledge). next_after (route_of c.in-Some.fact.now) k.me) c.self.view_is) ∙ c.in-Some-next_after.is)
    c.owes_at.ensures
