use Rattle.std.proofs.Common.{◌≡◌, List, ℕ, refl, sym, subst, ap, ◌∙◌}
use Rattle.std.specs.Prelude.{map}
use Rattle.relay_core.proofs.Firsts.{got}
use Rattle.resend_window.specs.Catalogued.{Catalogues}
use Rattle.resend_window.specs.Groups.{awaited_groups}
use Rattle.resend_window.proofs.Catalogues.{there_at}
use Rattle.resend_window.proofs.Grouped.{keys_set}
use Rattle.resend_window.proofs.awaited.remove_at.Goals as goal

pub returns-clause-index : goal.returns-clause-index
returns-clause-index c =
    let there = got c.args.awaiting.now c.args.place c.index-awaiting-place.result c.requires.within c.index-awaiting-place.is in
    subst (λ (ks : List (List (List ℕ))). Catalogues ks c.unlist.new.index) (sym (keys_set awaited_groups c.args.awaiting.now c.args.place refl))
    (c.unlist.ensures (map awaited_groups c.args.awaiting.now) (there_at awaited_groups c.args.awaiting.now c.args.place c.index-awaiting-place.result there ∙ ap awaited_groups c.index-awaiting-place.is) c.requires.index)
