use Rattle.std.proofs.Common.{ap, sym, refl, ◌∙◌, length, List, Option}
use Rattle.std.specs.Prelude.{map, filter, not}
use Rattle.resend_window.specs.declared.arrival.Arrival.{Arrival}
use Rattle.resend_window.specs.Kept.{somes}
use Rattle.resend_window.specs.Groups.{ArrivalItems}
use Rattle.resend_window.specs.Slots.{removed}
use Rattle.resend_window.specs.Lists.{is_from}
use Rattle.resend_window.proofs.Lists.{somes_removed, written_back}
use Rattle.resend_window.proofs.arrival_list.ArrivalList.remove.Goals as goal

pub returns-clause-items : goal.returns-clause-items
returns-clause-items c =
    let items = c.self.inside.items in
    ap somes (written_back items.len items.items c.remove_all.new.pending (removed (is_from c.args.wanted.now)) (sym items.ok.0) (c.remove_all.ensures.slots ∙ ap (map (removed (is_from c.args.wanted.now))) c.deref_mut.ensures.value))
    ∙ somes_removed (is_from c.args.wanted.now) (removed (is_from c.args.wanted.now)) refl (λ a. refl) items.items
    ∙ ap (λ (l : ArrivalItems). filter (λ a. not (is_from c.args.wanted.now a)) (somes l.items)) c.self.view_is
