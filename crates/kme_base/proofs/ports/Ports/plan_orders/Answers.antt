use Rattle.std.proofs.Common.{ap, ◌∙◌, map, sym, subst}
use Rattle.kme_base.specs.Places.{LinkEnds, AreEnds, ports_in, spares_in, with_port, need_within}
use Rattle.kme_base.proofs.Ends.{whole, ports_with, spares_with, planned_needs}
use Rattle.kme_base.proofs.Bounds.{ends_kept, need_end}
use Rattle.kme_base.proofs.ports.Ports.plan_orders.Goals as goal

pub invariant_of-self : goal.invariant_of-self
invariant_of-self c =
    let all = whole c.self.inside.ends.len c.deref_mut.result.now c.plan_in_each.new.ends _ c.plan_in_each.auto.ends c.deref_mut.ensures.len in
    subst AreEnds (sym (ap ports_in (all ∙ c.plan_in_each.ensures ∙ ap (map (with_port (need_within c.args.orders.now))) c.deref_mut.ensures.value) ∙ ports_with (need_within c.args.orders.now) c.self.inside.ends.items))
    (ends_kept (need_within c.args.orders.now) (need_end c.args.orders.now) (ports_in c.self.inside.ends.items) c.self.invariant)

pub returns-clause-ports : goal.returns-clause-ports
returns-clause-ports c =
    let all = whole c.self.inside.ends.len c.deref_mut.result.now c.plan_in_each.new.ends _ c.plan_in_each.auto.ends c.deref_mut.ensures.len in
    ap ports_in (all ∙ c.plan_in_each.ensures ∙ ap (map (with_port (need_within c.args.orders.now))) c.deref_mut.ensures.value)
    ∙ ports_with (need_within c.args.orders.now) c.self.inside.ends.items
    ∙ ap (λ (x : LinkEnds). map (need_within c.args.orders.now) x.ports) c.self.view_is

pub returns-clause-rooms : goal.returns-clause-rooms
returns-clause-rooms c =
    let all = whole c.self.inside.ends.len c.deref_mut.result.now c.plan_in_each.new.ends _ c.plan_in_each.auto.ends c.deref_mut.ensures.len in
    ap spares_in (all ∙ c.plan_in_each.ensures ∙ ap (map (with_port (need_within c.args.orders.now))) c.deref_mut.ensures.value)
    ∙ spares_with (need_within c.args.orders.now) c.self.inside.ends.items
    ∙ ap (λ (x : LinkEnds). x.spares) c.self.view_is

pub returns-clause-all : goal.returns-clause-all
returns-clause-all c = λ facts spelled room.
    let all = whole c.self.inside.ends.len c.deref_mut.result.now c.plan_in_each.new.ends _ c.plan_in_each.auto.ends c.deref_mut.ensures.len in
    ap ports_in (all ∙ c.plan_in_each.ensures ∙ ap (map (with_port (need_within c.args.orders.now))) c.deref_mut.ensures.value)
    ∙ ports_with (need_within c.args.orders.now) c.self.inside.ends.items
    ∙ ap (λ (x : LinkEnds). map (need_within c.args.orders.now) x.ports) c.self.view_is
    ∙ planned_needs facts c.args.orders.now c.args.self.now.ports spelled room
