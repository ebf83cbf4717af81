use Rattle.std.proofs.Common.{◌≡◌, List, Option, Some, sym, subst, ◌∙◌, ap}
use Rattle.std.specs.Prelude.{find, slice_get}
use Rattle.relay_core.specs.Firsts.{IsFirstFrom}
use Rattle.relay_core.proofs.Firsts.{none_find, got, get_within}
use Rattle.resend_window.specs.declared.held.Held.{Held}
use Rattle.resend_window.specs.Kept.{somes}
use Rattle.resend_window.specs.Groups.{HeldItems}
use Rattle.resend_window.specs.Slots.{passes, is_asked}
use Rattle.resend_window.proofs.Dues.{find_no_somes, find_first}
use Rattle.resend_window.proofs.held_list.HeldList.first.Goals as goal

pub returns-in-None : goal.returns-in-None
returns-in-None c =
    let t = is_asked c.args.query.now in
    sym (find_no_somes t c.deref.result.now (none_find (passes t) c.deref.result.now c.in-None.ensures.none))
    ∙ ap (λ (xs : List (Option Held)). find t (somes xs)) (c.deref.ensures.value ∙ ap (λ (l : HeldItems). l.items) c.self.view_is)

pub returns-in-Some : goal.returns-in-Some
returns-in-Some c =
    let t = is_asked c.args.query.now in
    let items = c.self.inside.items.items in
    let first = subst (λ (xs : List (Option Held)). IsFirstFrom (passes t) xs 0 c.in-Some.place) c.deref.ensures.value c.in-Some.ensures.first in
    let within = get_within items c.in-Some.place first.item first.there in
    c.as_ref.ensures.value ∙ find_first t items c.in-Some.place c.index.result.now first (got items c.in-Some.place c.index.result.now within c.index.ensures)
    ∙ ap (λ (l : HeldItems). find t (somes l.items)) c.self.view_is
