use Rattle.std.proofs.Common.{ap, ◌∙◌, map, sym, subst}
use Rattle.net_model.specs.Fold.{with_lease}
use Rattle.kme_base.specs.Places.{LinkEnds, AreEnds, ports_in, spares_in, with_port}
use Rattle.kme_base.proofs.Ends.{whole, ports_with, spares_with}
use Rattle.kme_base.proofs.Bounds.{ends_kept, lease_end}
use Rattle.kme_base.proofs.ports.Ports.raise_lease.Goals as goal

pub invariant_of-self : goal.invariant_of-self
invariant_of-self c =
    let all = whole c.self.inside.ends.len c.deref_mut.result.now c.lease_in.new.ends _ c.lease_in.auto.ends c.deref_mut.ensures.len in
    subst AreEnds (sym (ap ports_in (all ∙ c.lease_in.ensures ∙ ap (map (with_port (with_lease c.args.lane c.args.end))) c.deref_mut.ensures.value) ∙ ports_with (with_lease c.args.lane c.args.end) c.self.inside.ends.items))
    (ends_kept (with_lease c.args.lane c.args.end) (lease_end c.args.lane c.args.end) (ports_in c.self.inside.ends.items) c.self.invariant)

pub returns-clause-ports : goal.returns-clause-ports
returns-clause-ports c =
    let all = whole c.self.inside.ends.len c.deref_mut.result.now c.lease_in.new.ends _ c.lease_in.auto.ends c.deref_mut.ensures.len in
    ap ports_in (all ∙ c.lease_in.ensures ∙ ap (map (with_port (with_lease c.args.lane c.args.end))) c.deref_mut.ensures.value)
    ∙ ports_with (with_lease c.args.lane c.args.end) c.self.inside.ends.items
    ∙ ap (λ (x : LinkEnds). map (with_lease c.args.lane c.args.end) x.ports) c.self.view_is

pub returns-clause-rooms : goal.returns-clause-rooms
returns-clause-rooms c =
    let all = whole c.self.inside.ends.len c.deref_mut.result.now c.lease_in.new.ends _ c.lease_in.auto.ends c.deref_mut.ensures.len in
    ap spares_in (all ∙ c.lease_in.ensures ∙ ap (map (with_port (with_lease c.args.lane c.args.end))) c.deref_mut.ensures.value)
    ∙ spares_with (with_lease c.args.lane c.args.end) c.self.inside.ends.items
    ∙ ap (λ (x : LinkEnds). x.spares) c.self.view_is
