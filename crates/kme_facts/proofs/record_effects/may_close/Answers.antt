use Rattle.std.proofs.Common.{◌∙◌, sym, ap}
use Rattle.std.specs.Option.{option_copied}
use Rattle.kme_facts.specs.Taken.{may_close}
use Rattle.kme_facts.proofs.Taken.{none_named, some_named, closes_named}
use Rattle.kme_facts.proofs.record_effects.may_close.Goals as goal

pub returns-in-None : goal.returns-in-None
returns-in-None c =
    none_named c.args.known.now.facts c.args.stream (may_close c.args.known.now.me c.args.stream) c.len-holds.ensures.distinct (sym c.fact.ensures ∙ ap option_copied c.in-None.is)
    ∙ closes_named c.args.known.now.me c.args.stream c.args.known.now.facts

pub returns-in-Some : goal.returns-in-Some
returns-in-Some c =
    some_named c.args.known.now.facts c.args.stream (may_close c.args.known.now.me c.args.stream) c.in-Some.fact.now c.may_close_by.result c.len-holds.ensures.distinct
    (sym c.fact.ensures ∙ ap option_copied c.in-Some.is) c.may_close_by.ensures
    ∙ closes_named c.args.known.now.me c.args.stream c.args.known.now.facts
