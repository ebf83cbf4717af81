use Rattle.std.proofs.Common.{◌∙◌, sym, ap}
use Rattle.std.specs.Prelude.{slice_get}
use Rattle.std.specs.Option.{option_copied}
use Rattle.relay_core.specs.Knowledge.{Knowledge}
use Rattle.end_store.specs.Pooled.{ends_view}
use Rattle.kme_facts.proofs.Needing.{told_needed}
use Rattle.kme_facts.proofs.needs.needs_told_at.Goals as goal

pub returns-in-Some : goal.returns-in-Some
returns-in-Some c =
    told_needed (ends_view c.args.ends.now) (slice_get c.args.ends.now.known.facts c.args.place) c.in-Some.fact.now c.end_needs.result
    (sym (ap (λ (x : Knowledge). slice_get x.facts c.args.place) c.known.ensures) ∙ sym c.at.ensures ∙ ap option_copied c.in-Some.is) c.requires c.end_needs.ensures
