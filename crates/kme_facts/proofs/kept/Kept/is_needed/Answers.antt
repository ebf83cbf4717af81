use Rattle.std.proofs.Common.{◌∙◌, ap}
use Rattle.std.specs.Prelude.{slice_get}
use Rattle.end_store.specs.Waiting.{Ends}
use Rattle.end_store.specs.Pooled.{ends_view}
use Rattle.stream_core.specs.Kept.{StreamEnds}
use Rattle.kme_facts.specs.Needs.{needs_at}
use Rattle.kme_facts.proofs.Seen.{need_seen}
use Rattle.kme_facts.proofs.kept.Kept.is_needed.Goals as goal

pub returns : goal.returns
returns c v sees =
    let e = c.ends.ensures ∙ ap (λ (s : StreamEnds). s.ends) c.self.view_is in
    c.needs_at.ensures ∙ ap (λ (e : Ends). needs_at (ends_view e) (slice_get e.known.facts c.args.place)) e
    ∙ need_seen v c.args.self.now (slice_get c.args.self.now.ends.known.facts c.args.place) sees
