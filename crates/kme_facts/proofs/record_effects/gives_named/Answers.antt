use Rattle.std.proofs.Common.{◌∙◌, sym, ap}
use Rattle.std.specs.Option.{option_copied}
use Rattle.kme_facts.specs.Taken.{may_give}
use Rattle.kme_facts.proofs.Taken.{none_named, some_named}
use Rattle.kme_facts.proofs.record_effects.gives_named.Goals as goal

pub returns-in-None : goal.returns-in-None
returns-in-None c =
    none_named c.args.known.now.facts c.args.name (may_give c.args.known.now.me c.args.name c.args.sae) c.len-holds.ensures.distinct (sym c.fact.ensures ∙ ap option_copied c.in-None.is)

pub returns-in-Some : goal.returns-in-Some
returns-in-Some c =
    some_named c.args.known.now.facts c.args.name (may_give c.args.known.now.me c.args.name c.args.sae) c.in-Some.fact.now c.may_give_by.result c.len-holds.ensures.distinct
    (sym c.fact.ensures ∙ ap option_copied c.in-Some.is) c.may_give_by.ensures
