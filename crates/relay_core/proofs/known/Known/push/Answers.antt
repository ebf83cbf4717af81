use Rattle.std.proofs.Common.{◌≡◌, ℕ, List, ◌∙◌, sym, ap, subst}
use Rattle.std.specs.Prelude.{slice_get, IfSome}
use Rattle.qkd_base.specs.Name.{Name, IsName}
use Rattle.qkd_base.specs.Route.{next_after}
use Rattle.net_model.specs.declared.fact.Fact.{Fact}
use Rattle.net_model.specs.Table.{name_of, has_fact}
use Rattle.relay_core.specs.Index.{IsIndex, creditor}
use Rattle.relay_core.specs.Knowledge.{Knowledge}
use Rattle.relay_core.proofs.Kept.{known_pushed, index_pushed, owed_pushed}
use Rattle.relay_core.proofs.known.Known.push.Goals as goal

pub list_new-self-inside-requires-clause-index : goal.list_new-self-inside-requires-clause-index
list_new-self-inside-requires-clause-index c =
    let same = c.deref.ensures.value ∙ c.push_reserved.ensures.items in
    subst (λ (ns : List Name). IsIndex c.self.inside.me ns c.deref.result.now c.self.inside.index c.self.inside.listed) (sym c.deref-2.ensures.value)
    (index_pushed c.self.inside.me c.self.inside.facts.items c.deref.result.now c.self.inside.acked.items c.self.inside.index c.self.inside.listed c.args.fact c.self.invariant.index same)

pub list_new-self-inside-requires-clause-owed : goal.list_new-self-inside-requires-clause-owed
list_new-self-inside-requires-clause-owed c whole =
    let e = ap (λ (k : Knowledge). k.facts) c.self.view_is in
    let same = c.deref.ensures.value ∙ c.push_reserved.ensures.items in
    subst (λ (ns : List Name). IfSome (slice_get c.deref.result.now c.self.inside.listed) (λ f. c.next_after-to.result ≡ creditor c.self.inside.me ns f)) (sym c.deref-2.ensures.value)
    (owed_pushed c.self.inside.me c.self.inside.facts.items c.deref.result.now c.self.inside.acked.items c.self.inside.listed c.args.fact c.next_after-to.result c.self.invariant.known
    (ap (λ (fs : List Fact). has_fact fs (name_of c.args.fact)) e ∙ c.requires.new) same
    (c.next_after-to.ensures ∙ ap (λ (r : List ℕ). next_after r c.self.inside.me) c.fact_route.ensures) whole)

pub invariant_of-self : goal.invariant_of-self
invariant_of-self c =
    let e = ap (λ (k : Knowledge). k.facts) c.self.view_is in
    let index = subst (λ (fs : List Fact). IsIndex c.self.inside.me c.self.inside.acked.items fs c.list_new-self-inside.new.index c.list_new-self-inside.result) c.deref.ensures.value
    (subst (λ (ns : List Name). IsIndex c.self.inside.me ns c.deref.result.now c.list_new-self-inside.new.index c.list_new-self-inside.result) c.deref-2.ensures.value c.list_new-self-inside.ensures) in
    known_pushed c.self.inside.me c.self.inside.facts.items c.push_reserved.new.self.items c.self.inside.acked.items c.self.inside.index c.list_new-self-inside.new.index c.self.inside.listed
    c.list_new-self-inside.result c.self.inside.last c.later_count-self-inside.result c.args.fact c.self.invariant (subst IsName c.fact_name-holds.ensures.name c.fact_name-holds.ensures.named)
    (ap (λ (fs : List Fact). has_fact fs (name_of c.args.fact)) e ∙ c.requires.new) c.push_reserved.ensures.items index c.later_count-self-inside.ensures.bound c.later_count-self-inside.ensures.count
