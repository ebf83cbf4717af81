use Rattle.std.proofs.Common.{Bool, ap, sym, ◌∙◌}
use Rattle.whole_audit.specs.Handings.{node_if, was_handed, fits_handed, shows_handed}
use Rattle.whole_audit.proofs.handings.Handings.fit_shown.Goals as goal

pub returns-in-Shown : goal.returns-in-Shown
returns-in-Shown c s before stopped kept =
    c.fits_handed.ensures
    ∙ ap (λ (b : Bool). fits_handed b c.may_hand.result c.in-Shown.held) (c.was_handed_at.ensures s before kept.at)
    ∙ ap (λ (b : Bool). fits_handed (was_handed node_if s before c.in-Shown.name c.in-Shown.node) b c.in-Shown.held) (c.may_hand.ensures s before stopped kept.unnamed)
    ∙ ap (shows_handed s before) (sym c.in-Shown.is)
