use Rattle.std.proofs.Common.{◌∙◌, sym}
use Rattle.qkd_base.specs.Name.{name_eq}
use Rattle.net_model.specs.declared.fact.Fact.{Fact}
use Rattle.net_model.specs.Table.{name_of}
use Rattle.kme_keys.specs.Holding.{is_key_for}
use Rattle.kme_keys.proofs.Passing.{hit, none_yet, key_named, no_key}
use Rattle.kme_keys.proofs.holder.key_place.Goals as goal

pub returns-then-is_key_at-clause-first : goal.returns-then-is_key_at-clause-first
returns-then-is_key_at-clause-first c =
    hit (λ (f : Fact). name_eq (name_of f) c.args.name) (is_key_for c.args.of c.args.to c.args.name) (key_named c.args.of c.args.to c.args.name) c.args.known.now.facts 0
    (none_yet (is_key_for c.args.of c.args.to c.args.name) c.args.known.now.facts) c.in-Some.place c.in-Some.ensures.first (sym c.is_key_at.ensures ∙ c.if-is_key_at.true)

pub returns-else-is_key_at-clause-none : goal.returns-else-is_key_at-clause-none
returns-else-is_key_at-clause-none c =
    no_key c.args.of c.args.to c.args.name c.args.known.now.facts c.in-Some.place c.len-holds.ensures.distinct c.in-Some.ensures.first (sym c.is_key_at.ensures ∙ c.if-is_key_at.false)
