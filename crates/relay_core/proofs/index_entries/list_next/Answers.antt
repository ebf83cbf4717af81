use Rattle.std.proofs.Common.{◌≡◌, Option, subst}
use Rattle.std.specs.Prelude.{IfSome}
use Rattle.net_model.specs.declared.fact.Fact.{Fact}
use Rattle.relay_core.specs.Index.{creditor}
use Rattle.relay_core.proofs.Firsts.{got}
use Rattle.relay_core.proofs.Entered.{index_more, index_partly}
use Rattle.relay_core.proofs.index_entries.list_next.Goals as goal

pub returns-then-list_fact-clause-index : goal.returns-then-list_fact-clause-index
returns-then-list_fact-clause-index c =
    let there = got c.args.facts.now c.args.count c.index-facts-count.result c.requires.within c.index-facts-count.is in
    let owed = subst (λ (o : Option Fact). IfSome o (λ f. c.args.to ≡ creditor c.args.me c.args.acked.now f)) there c.requires.owed in
    index_more c.args.me c.args.acked.now c.args.facts.now c.args.index.now c.list_fact.new.index c.args.count c.index-facts-count.result c.args.to c.requires.index there owed
    (c.list_fact.ensures.done c.if-list_fact.true)

pub returns-else-list_fact-clause-index : goal.returns-else-list_fact-clause-index
returns-else-list_fact-clause-index c =
    let there = got c.args.facts.now c.args.count c.index-facts-count.result c.requires.within c.index-facts-count.is in
    let owed = subst (λ (o : Option Fact). IfSome o (λ f. c.args.to ≡ creditor c.args.me c.args.acked.now f)) there c.requires.owed in
    index_partly c.args.me c.args.acked.now c.args.facts.now c.args.index.now c.list_fact.new.index c.args.count c.index-facts-count.result c.args.to c.requires.index there owed
    (c.list_fact.ensures.not_done c.if-list_fact.false)
