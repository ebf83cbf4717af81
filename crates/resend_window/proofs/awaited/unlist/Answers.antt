use Rattle.std.proofs.Common.{ℕ, List, [], ◌∷◌, ap, sym, refl, ◌∙◌}
use Rattle.resend_window.specs.Groups.{awaited_groups}
use Rattle.resend_window.proofs.Catalogues.{catalogue_same}
use Rattle.resend_window.proofs.awaited.unlist.Goals as goal

pub returns-in-None : goal.returns-in-None
returns-in-None c keys there was whole = catalogue_same keys c.args.place c.args.index.now.entries (was whole) (there ∙ ap awaited_groups c.in-None.is)

pub returns-in-Some : goal.returns-in-Some
returns-in-Some c keys there was =
    c.leave.ensures keys [] (there ∙ ap awaited_groups c.in-Some.is ∙ ap (λ (g : List ℕ). g ∷ []) (sym c.group.ensures)) refl was
