use Rattle.std.proofs.Common.{◌∙◌, ap, subst}
use Rattle.end_store.specs.Waiting.{Ends}
use Rattle.relay_core.specs.Knowledge.{Knowledge, AreDistinct}
use Rattle.kme_facts.proofs.Masking.{let_go_masks}
use Rattle.kme_facts.proofs.wiped_bytes.let_go.Goals as goal

pub returns-clause-view : goal.returns-clause-view
returns-clause-view c =
    let k = c.known.ensures ∙ ap (λ (e : Ends). e.known) c.ends.ensures in
    let_go_masks c.args.streams.now c.let_go_all_learned.new.streams c.let_go_all_told.new.streams c.let_go_all_given.new.streams c.args.facts c.args.acked c.args.handed
    (subst (λ (x : Knowledge). AreDistinct x.facts) k c.len-holds.ensures.distinct) c.requires c.let_go_all_learned.ensures.lets c.let_go_all_learned.ensures.settled
    c.let_go_all_told.ensures.lets c.let_go_all_told.ensures.settled c.let_go_all_given.ensures.lets c.let_go_all_given.ensures.settled
