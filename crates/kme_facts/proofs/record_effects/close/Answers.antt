use Rattle.std.proofs.Common.{◌∙◌, sym, ap}
use Rattle.std.specs.List.{list_any}
use Rattle.end_store.specs.Waiting.{Ends}
use Rattle.relay_core.specs.Knowledge.{Knowledge}
use Rattle.kme_facts.specs.Taken.{may_close}
use Rattle.kme_facts.proofs.Taken.{closed_view, unclosed_view}
use Rattle.kme_facts.proofs.record_effects.close.Goals as goal

pub returns-then-may_close-clause-view : goal.returns-then-may_close-clause-view
returns-then-may_close-clause-view c =
    let k = c.known.ensures ∙ ap (λ (e : Ends). e.known) c.ends.ensures in
    closed_view c.args.streams.now c.close.new.self c.args.stream c.args.sae (sym (ap (λ (k : Knowledge). list_any (may_close k.me c.args.stream) k.facts) k) ∙ sym c.may_close.ensures ∙ c.if-may_close.true) c.close.ensures.closed c.close.ensures.ends

pub returns-else-may_close-clause-view : goal.returns-else-may_close-clause-view
returns-else-may_close-clause-view c =
    let k = c.known.ensures ∙ ap (λ (e : Ends). e.known) c.ends.ensures in
    unclosed_view c.args.streams.now c.args.stream c.args.sae (sym (ap (λ (k : Knowledge). list_any (may_close k.me c.args.stream) k.facts) k) ∙ sym c.may_close.ensures ∙ c.if-may_close.false)
