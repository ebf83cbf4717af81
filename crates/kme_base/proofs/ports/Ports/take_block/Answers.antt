use Rattle.std.proofs.Common.{List, ap, ◌∙◌, map, sym, subst}
use Rattle.net_model.specs.Fold.{with_block}
use Rattle.kme_base.specs.Places.{Place, AreEnds, ports_in}
use Rattle.kme_base.proofs.Ends.{whole}
use Rattle.kme_base.proofs.Bounds.{ends_kept, block_end}
use Rattle.kme_base.proofs.ports.Ports.take_block.Goals as goal

pub invariant_of-self : goal.invariant_of-self
invariant_of-self c =
    let all = whole c.self.inside.ends.len c.deref_mut.result.now c.take_in.new.ends _ c.take_in.auto.ends c.deref_mut.ensures.len in
    subst AreEnds (sym (ap ports_in all ∙ c.take_in.ensures.ports ∙ ap (λ (xs : List Place). map (with_block c.args.link c.args.number c.as_block.result.now) (ports_in xs)) c.deref_mut.ensures.value))
    (ends_kept (with_block c.args.link c.args.number c.as_block.result.now) (block_end c.args.link c.args.number c.as_block.result.now) (ports_in c.self.inside.ends.items) c.self.invariant)
