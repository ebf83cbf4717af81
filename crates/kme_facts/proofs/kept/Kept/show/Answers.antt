use Rattle.std.proofs.Common.{◌∙◌, ap}
use Rattle.end_store.specs.Waiting.{Ends}
use Rattle.end_store.specs.Pooled.{ends_view}
use Rattle.net_model.specs.Show.{show}
use Rattle.stream_core.specs.Kept.{StreamEnds}
use Rattle.kme_facts.proofs.Parted.{ok_same, show_seen}
use Rattle.kme_facts.proofs.kept.Kept.show.Goals as goal

pub returns : goal.returns
returns c v sees =
    let e = c.ends.ensures ∙ ap (λ (s : StreamEnds). s.ends) c.self.view_is in
    ok_same c.show.result (show (ends_view c.ends.result.now) c.args.name) (show v c.args.name) c.show.ensures
    (ap (λ (x : Ends). show (ends_view x) c.args.name) e ∙ show_seen v c.args.self.now c.args.name sees)
