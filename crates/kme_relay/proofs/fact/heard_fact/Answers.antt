use Rattle.std.proofs.Common.{sym, ap, ◌∙◌, true, false}
use Rattle.net_model.specs.Table.{has_fact, kind_of}
use Rattle.net_model.specs.declared.reply.Reply.TheVariants.{HeardFact}
use Rattle.kme_relay.proofs.Receipts.{fact_again, fact_taken, knows_is}
use Rattle.kme_relay.proofs.fact.heard_fact.Goals as goal

pub returns-then-knows : goal.returns-then-knows
returns-then-knows c = λ v h.
    let named = c.fact_name-name.ensures.name in
    fact_again v c.args.lane c.args.offset c.args.fact.now c.fact_name-name.result c.new.result c.answer.result named
    (knows_is v c.args.known.now _ h ∙ ap (has_fact c.args.known.now.facts) (sym named) ∙ sym c.knows.ensures ∙ c.if-knows.true)
    c.new.ensures
    (c.answer.ensures ∙ ap (λ k. HeardFact false k c.fact_name-name.result) c.kind_octet-kind.ensures ∙ ap (HeardFact false (kind_of c.args.fact.now)) named)

pub returns-in-Ok : goal.returns-in-Ok
returns-in-Ok c = λ v h.
    let named = c.fact_name-name.ensures.name in
    fact_taken v c.args.lane c.args.offset c.args.fact.now c.fact_name-name.result c.in-Ok.batch c.answer-in-Ok.result named
    (knows_is v c.args.known.now _ h ∙ ap (has_fact c.args.known.now.facts) (sym named) ∙ sym c.knows.ensures ∙ c.if-knows.false)
    (c.in-Ok.ensures v h)
    (c.answer-in-Ok.ensures ∙ ap (λ k. HeardFact true k c.fact_name-name.result) c.kind_octet-kind.ensures ∙ ap (HeardFact true (kind_of c.args.fact.now)) named)
