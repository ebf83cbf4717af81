use Rattle.std.proofs.Common.{◌∙◌, ap, subst}
use Rattle.relay_core.specs.declared.group.Group.TheVariants.{Named}
use Rattle.relay_core.specs.Knowledge.{Knowledge, AreDistinct}
use Rattle.end_store.specs.Waiting.{Ends}
use Rattle.kme_facts.proofs.Named.{none_told, one_told}
use Rattle.kme_facts.proofs.Settling.{first_in, none_in}
use Rattle.kme_facts.proofs.wiped_bytes.let_go_told.Goals as goal

pub returns-in-None-clause-settled : goal.returns-in-None-clause-settled
returns-in-None-clause-settled c =
    let k = c.known-2.ensures ∙ ap (λ (e : Ends). e.known) c.ends-2.ensures in
    none_told c.args.streams.now c.args.name (none_in c.args.streams.now c.known-2.result.now (Named c.args.name) 0 k c.in-None.ensures.none)

pub returns-in-Some-clause-settled : goal.returns-in-Some-clause-settled
returns-in-Some-clause-settled c =
    let k = c.known.ensures ∙ ap (λ (e : Ends). e.known) c.ends.ensures in
    let k2 = c.known-2.ensures ∙ ap (λ (e : Ends). e.known) c.ends-2.ensures in
    let told = c.let_go_acked.ensures in
    one_told c.args.streams.now c.let_go_acked.new.streams c.args.name c.in-Some.place (subst (λ (x : Knowledge). AreDistinct x.facts) k c.len-holds.ensures.distinct)
    (first_in c.args.streams.now c.known-2.result.now (Named c.args.name) 0 c.in-Some.place k2 c.in-Some.ensures.first) told.lets told.there told.parts
