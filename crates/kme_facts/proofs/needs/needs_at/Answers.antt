use Rattle.std.proofs.Common.{◌≡◌, ◌∙◌, sym, ap, subst}
use Rattle.std.specs.Prelude.{slice_get, IfSome}
use Rattle.std.specs.Option.{option_copied}
use Rattle.relay_core.specs.Knowledge.{Knowledge, is_owed_by}
use Rattle.end_store.specs.Pooled.{ends_view}
use Rattle.kme_facts.proofs.Needing.{owed_needed, unowed_needed}
use Rattle.kme_facts.proofs.needs.needs_at.Goals as goal

pub returns-then-is_owed_at : goal.returns-then-is_owed_at
returns-then-is_owed_at c =
    let k = c.known-known.ensures in
    c.if-is_owed_at.true
    ∙ owed_needed (ends_view c.args.ends.now) (slice_get c.args.ends.now.known.facts c.args.place) c.in-Some.fact.now c.is_owed_at.result
    (sym (ap (λ (x : Knowledge). slice_get x.facts c.args.place) k) ∙ sym c.at.ensures ∙ ap option_copied c.in-Some.is)
    (subst (λ (x : Knowledge). IfSome (slice_get x.facts c.args.place) (λ f. c.is_owed_at.result ≡ is_owed_by x.me x.acked f)) k c.is_owed_at.ensures) c.if-is_owed_at.true

pub returns-else-is_owed_at : goal.returns-else-is_owed_at
returns-else-is_owed_at c =
    let k = c.known-known.ensures in
    unowed_needed (ends_view c.args.ends.now) (slice_get c.args.ends.now.known.facts c.args.place) c.in-Some.fact.now c.is_owed_at.result c.end_needs.result
    (sym (ap (λ (x : Knowledge). slice_get x.facts c.args.place) k) ∙ sym c.at.ensures ∙ ap option_copied c.in-Some.is)
    (subst (λ (x : Knowledge). IfSome (slice_get x.facts c.args.place) (λ f. c.is_owed_at.result ≡ is_owed_by x.me x.acked f)) k c.is_owed_at.ensures) c.if-is_owed_at.false c.end_needs.ensures
