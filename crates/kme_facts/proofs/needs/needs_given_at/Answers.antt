use Rattle.std.proofs.Common.{◌≡◌, ◌∙◌, sym, ap, subst}
use Rattle.std.specs.Prelude.{slice_get, not, IfSome}
use Rattle.std.specs.Option.{option_copied}
use Rattle.relay_core.specs.Knowledge.{Knowledge, is_owed_by}
use Rattle.end_store.specs.Pooled.{ends_view}
use Rattle.kme_facts.specs.Needs.{is_for}
use Rattle.kme_facts.proofs.Needing.{owed_needed, unowed_needed, given_unneeded}
use Rattle.kme_facts.proofs.needs.needs_given_at.Goals as goal

pub returns-then-is_owed_at : goal.returns-then-is_owed_at
returns-then-is_owed_at c =
    let k = c.known-known.ensures in
    c.if-is_owed_at.true
    ∙ owed_needed (ends_view c.args.ends.now) (slice_get c.args.ends.now.known.facts c.args.place) c.in-Some.fact.now c.is_owed_at.result
    (sym (ap (λ (x : Knowledge). slice_get x.facts c.args.place) k) ∙ sym c.at.ensures ∙ ap option_copied c.in-Some.is)
    (subst (λ (x : Knowledge). IfSome (slice_get x.facts c.args.place) (λ f. c.is_owed_at.result ≡ is_owed_by x.me x.acked f)) k c.is_owed_at.ensures) c.if-is_owed_at.true

pub returns-then-not-is_for : goal.returns-then-not-is_for
returns-then-not-is_for c =
    let k = c.known-known.ensures in
    unowed_needed (ends_view c.args.ends.now) (slice_get c.args.ends.now.known.facts c.args.place) c.in-Some.fact.now c.is_owed_at.result c.end_needs.result
    (sym (ap (λ (x : Knowledge). slice_get x.facts c.args.place) k) ∙ sym c.at.ensures ∙ ap option_copied c.in-Some.is)
    (subst (λ (x : Knowledge). IfSome (slice_get x.facts c.args.place) (λ f. c.is_owed_at.result ≡ is_owed_by x.me x.acked f)) k c.is_owed_at.ensures) c.if-is_owed_at.false c.end_needs.ensures

pub returns-else-not-is_for : goal.returns-else-not-is_for
returns-else-not-is_for c =
    let k = c.known-known.ensures in
    ap not c.if-not-is_for.false
    ∙ given_unneeded (ends_view c.args.ends.now) (slice_get c.args.ends.now.known.facts c.args.place) c.in-Some.fact.now c.args.sae c.is_owed_at.result c.is_for.result
    (sym (ap (λ (x : Knowledge). slice_get x.facts c.args.place) k) ∙ sym c.at.ensures ∙ ap option_copied c.in-Some.is)
    (subst (λ (x : Knowledge). IfSome (slice_get x.facts c.args.place) (λ f. c.is_owed_at.result ≡ is_owed_by x.me x.acked f)) k c.is_owed_at.ensures) c.if-is_owed_at.false c.requires
    (c.is_for.ensures ∙ ap (λ (x : Knowledge). is_for x.me x.facts c.args.sae c.in-Some.fact.now) k) c.if-not-is_for.false
