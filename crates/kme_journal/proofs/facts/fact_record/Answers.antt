use Rattle.std.proofs.Common.{sym, ap, subst, ◌∙◌}
use Rattle.net_model.specs.declared.fact.Fact.{Fact}
use Rattle.net_model.specs.declared.record.Record.TheVariants.{Learned, Bare}
use Rattle.net_model.specs.Formed.{IsBareFact}
use Rattle.kme_facts.specs.Needs.{kept_view}
use Rattle.kme_journal.proofs.Listed.{sees_itself, bare_at, record_by}
use Rattle.kme_journal.proofs.facts.fact_record.Goals as goal

pub returns-then-is_bare-clause-spelled : goal.returns-then-is_bare-clause-spelled
returns-then-is_bare-clause-spelled c = λ v sees. ap (λ (f : Fact). Bare f) c.in_ok-fact.ensures ∙ record_by v c.args.fact.now _ _ (c.is_bare-is_bare.ensures v sees) c.if-is_bare.true

pub returns-then-is_bare-clause-formed : goal.returns-then-is_bare-clause-formed
returns-then-is_bare-clause-formed c =
    let test = sym (c.is_bare-is_bare.ensures (kept_view c.args.kept.now) (sees_itself c.args.kept.now)) ∙ c.if-is_bare.true in
    subst IsBareFact (sym c.in_ok-fact.ensures) (bare_at c.args.kept.now c.args.place c.args.fact.now c.requires.masked c.requires.there c.requires.formed test)

pub returns-clause-spelled : goal.returns-clause-spelled
returns-clause-spelled c = λ v sees. ap (λ (f : Fact). Learned f) c.in_ok-fact.ensures ∙ record_by v c.args.fact.now _ _ (c.is_bare-is_bare.ensures v sees) c.if-is_bare.false
