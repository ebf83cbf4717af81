use Rattle.std.proofs.Common.{ap, ◌∙◌, map, sym, subst}
use Rattle.kme_base.specs.Places.{LinkEnds, AreEnds, ports_in, spares_in, with_port, planned_within}
use Rattle.kme_base.proofs.Ends.{whole, ports_with, spares_with, all_planned}
use Rattle.kme_base.proofs.Bounds.{ends_kept, planned_end}
use Rattle.kme_base.proofs.ports.Ports.plan.Goals as goal

pub invariant_of-self : goal.invariant_of-self
invariant_of-self c =
    let all = whole c.self.inside.ends.len c.deref_mut.result.now c.plan_in.new.ends _ c.plan_in.auto.ends c.deref_mut.ensures.len in
    subst AreEnds (sym (ap ports_in (all ∙ c.plan_in.ensures ∙ ap (map (with_port (planned_within c.args.lane c.args.bytes))) c.deref_mut.ensures.value) ∙ ports_with (planned_within c.args.lane c.args.bytes) c.self.inside.ends.items))
    (ends_kept (planned_within c.args.lane c.args.bytes) (planned_end c.args.lane c.args.bytes) (ports_in c.self.inside.ends.items) c.self.invariant)

pub returns-clause-ports : goal.returns-clause-ports
returns-clause-ports c =
    let all = whole c.self.inside.ends.len c.deref_mut.result.now c.plan_in.new.ends _ c.plan_in.auto.ends c.deref_mut.ensures.len in
    ap ports_in (all ∙ c.plan_in.ensures ∙ ap (map (with_port (planned_within c.args.lane c.args.bytes))) c.deref_mut.ensures.value)
    ∙ ports_with (planned_within c.args.lane c.args.bytes) c.self.inside.ends.items
    ∙ ap (λ (x : LinkEnds). map (planned_within c.args.lane c.args.bytes) x.ports) c.self.view_is

pub returns-clause-rooms : goal.returns-clause-rooms
returns-clause-rooms c =
    let all = whole c.self.inside.ends.len c.deref_mut.result.now c.plan_in.new.ends _ c.plan_in.auto.ends c.deref_mut.ensures.len in
    ap spares_in (all ∙ c.plan_in.ensures ∙ ap (map (with_port (planned_within c.args.lane c.args.bytes))) c.deref_mut.ensures.value)
    ∙ spares_with (planned_within c.args.lane c.args.bytes) c.self.inside.ends.items
    ∙ ap (λ (x : LinkEnds). x.spares) c.self.view_is

pub returns-clause-all : goal.returns-clause-all
returns-clause-all c = λ room.
    let all = whole c.self.inside.ends.len c.deref_mut.result.now c.plan_in.new.ends _ c.plan_in.auto.ends c.deref_mut.ensures.len in
    ap ports_in (all ∙ c.plan_in.ensures ∙ ap (map (with_port (planned_within c.args.lane c.args.bytes))) c.deref_mut.ensures.value)
    ∙ ports_with (planned_within c.args.lane c.args.bytes) c.self.inside.ends.items
    ∙ ap (λ (x : LinkEnds). map (planned_within c.args.lane c.args.bytes) x.ports) c.self.view_is
    ∙ all_planned c.args.lane c.args.bytes c.args.self.now.ports room
