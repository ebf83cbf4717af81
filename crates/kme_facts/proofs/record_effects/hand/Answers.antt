use Rattle.std.proofs.Common.{◌∙◌, sym, ap}
use Rattle.std.specs.List.{list_any}
use Rattle.end_store.specs.Waiting.{Ends}
use Rattle.relay_core.specs.Knowledge.{Knowledge}
use Rattle.kme_facts.specs.Taken.{may_give}
use Rattle.kme_facts.proofs.Taken.{handed_view, unhanded_view}
use Rattle.kme_facts.proofs.record_effects.hand.Goals as goal

pub returns-then-may_give-clause-view : goal.returns-then-may_give-clause-view
returns-then-may_give-clause-view c =
    let k = c.known.ensures ∙ ap (λ (e : Ends). e.known) c.ends.ensures in
    handed_view c.args.streams.now c.mark.new.self c.args.name c.args.sae (sym (ap (λ (k : Knowledge). list_any (may_give k.me c.args.name c.args.sae) k.facts) k) ∙ sym c.may_give.ensures ∙ c.if-may_give.true) c.mark.ensures.handed c.mark.ensures.known c.mark.ensures.closed.0

pub returns-else-may_give-clause-view : goal.returns-else-may_give-clause-view
returns-else-may_give-clause-view c =
    let k = c.known.ensures ∙ ap (λ (e : Ends). e.known) c.ends.ensures in
    unhanded_view c.args.streams.now c.args.name c.args.sae (sym (ap (λ (k : Knowledge). list_any (may_give k.me c.args.name c.args.sae) k.facts) k) ∙ sym c.may_give.ensures ∙ c.if-may_give.false)
