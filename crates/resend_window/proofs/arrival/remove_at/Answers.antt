use Rattle.std.proofs.Common.{◌≡◌, List, ℕ, refl, sym, subst, ap, ◌∙◌}
use Rattle.std.specs.Prelude.{map}
use Rattle.relay_core.proofs.Firsts.{got}
use Rattle.resend_window.specs.Catalogued.{Catalogues}
use Rattle.resend_window.specs.Groups.{arrival_groups}
use Rattle.resend_window.proofs.Catalogues.{there_at}
use Rattle.resend_window.proofs.Grouped.{keys_set}
use Rattle.resend_window.proofs.arrival.remove_at.Goals as goal

pub returns-clause-index : goal.returns-clause-index
returns-clause-index c =
    let there = got c.args.pending.now c.args.place c.index-pending-place.result c.requires.within c.index-pending-place.is in
    subst (λ (ks : List (List (List ℕ))). Catalogues ks c.unlist.new.index) (sym (keys_set arrival_groups c.args.pending.now c.args.place refl))
    (c.unlist.ensures (map arrival_groups c.args.pending.now) (there_at arrival_groups c.args.pending.now c.args.place c.index-pending-place.result there ∙ ap arrival_groups c.index-pending-place.is) c.requires.index)
