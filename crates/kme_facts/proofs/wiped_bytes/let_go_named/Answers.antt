use Rattle.std.proofs.Common.{◌≡◌, true, ◌∙◌, refl, sym, ap, subst}
use Rattle.std.specs.Prelude.{slice_get, IfSome}
use Rattle.net_model.specs.Table.{name_of, was_handed}
use Rattle.relay_core.specs.declared.group.Group.TheVariants.{Named}
use Rattle.relay_core.specs.Knowledge.{Knowledge, AreDistinct}
use Rattle.end_store.specs.Waiting.{Ends}
use Rattle.kme_facts.proofs.Named.{named_settled, named_given}
use Rattle.kme_facts.proofs.Settling.{need_in, first_in, facts_in}
use Rattle.kme_facts.proofs.wiped_bytes.let_go_named.Goals as goal

pub needs_given_at-needed-requires : goal.needs_given_at-needed-requires
needs_given_at-needed-requires c =
    let k = c.known-2.ensures ∙ ap (λ (e : Ends). e.known) c.ends-2.ensures in
    subst (λ (e : Ends). IfSome (slice_get e.known.facts c.in-Some.place) (λ f. was_handed e.handed (name_of f) c.args.sae ≡ true)) (sym c.ends-in-Some.ensures)
    (named_given (facts_in c.args.streams.now) c.args.streams.now.ends.handed c.args.name c.args.sae c.in-Some.place
    (first_in c.args.streams.now c.known-2.result.now (Named c.args.name) 0 c.in-Some.place k c.in-Some.ensures.first) c.requires)

pub let_go_unless-requires : goal.let_go_unless-requires
let_go_unless-requires c =
    sym (need_in c.args.streams.now c.ends-in-Some.result.now c.in-Some.place c.needs_given_at-needed.result c.needs_given_at-needed.result c.ends-in-Some.ensures c.needs_given_at-needed.ensures refl)

pub returns-in-Some-clause-settled : goal.returns-in-Some-clause-settled
returns-in-Some-clause-settled c =
    let k = c.known.ensures ∙ ap (λ (e : Ends). e.known) c.ends.ensures in
    let k2 = c.known-2.ensures ∙ ap (λ (e : Ends). e.known) c.ends-2.ensures in
    named_settled c.args.streams.now c.let_go_unless.new.streams c.args.name c.in-Some.place (subst (λ (x : Knowledge). AreDistinct x.facts) k c.len-holds.ensures.distinct)
    (first_in c.args.streams.now c.known-2.result.now (Named c.args.name) 0 c.in-Some.place k2 c.in-Some.ensures.first) c.let_go_unless.ensures.lets c.let_go_unless.ensures.settled
