use Rattle.std.proofs.Common.{ap, ◌∙◌, map, sym, subst}
use Rattle.kme_base.specs.Places.{LinkEnds, AreEnds, ports_in, spares_in, with_port, restarted}
use Rattle.kme_base.proofs.Ends.{whole, ports_with, spares_with}
use Rattle.kme_base.proofs.Bounds.{ends_kept, restarted_end}
use Rattle.kme_base.proofs.ports.Ports.restart.Goals as goal

pub invariant_of-self : goal.invariant_of-self
invariant_of-self c =
    let all = whole c.self.inside.ends.len c.deref_mut.result.now c.restart_in.new.ends _ c.restart_in.auto.ends c.deref_mut.ensures.len in
    subst AreEnds (sym (ap ports_in (all ∙ c.restart_in.ensures ∙ ap (map (with_port (restarted))) c.deref_mut.ensures.value) ∙ ports_with (restarted) c.self.inside.ends.items))
    (ends_kept (restarted) (restarted_end) (ports_in c.self.inside.ends.items) c.self.invariant)

pub returns-clause-ports : goal.returns-clause-ports
returns-clause-ports c =
    let all = whole c.self.inside.ends.len c.deref_mut.result.now c.restart_in.new.ends _ c.restart_in.auto.ends c.deref_mut.ensures.len in
    ap ports_in (all ∙ c.restart_in.ensures ∙ ap (map (with_port (restarted))) c.deref_mut.ensures.value)
    ∙ ports_with (restarted) c.self.inside.ends.items
    ∙ ap (λ (x : LinkEnds). map (restarted) x.ports) c.self.view_is

pub returns-clause-rooms : goal.returns-clause-rooms
returns-clause-rooms c =
    let all = whole c.self.inside.ends.len c.deref_mut.result.now c.restart_in.new.ends _ c.restart_in.auto.ends c.deref_mut.ensures.len in
    ap spares_in (all ∙ c.restart_in.ensures ∙ ap (map (with_port (restarted))) c.deref_mut.ensures.value)
    ∙ spares_with (restarted) c.self.inside.ends.items
    ∙ ap (λ (x : LinkEnds). x.spares) c.self.view_is
