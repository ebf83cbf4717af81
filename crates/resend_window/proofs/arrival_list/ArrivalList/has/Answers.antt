use Rattle.std.proofs.Common.{◌∙◌, ap, sym, List, Option}
use Rattle.std.specs.List.{list_any}
use Rattle.relay_core.proofs.Firsts.{first_any, none_any}
use Rattle.resend_window.specs.declared.arrival.Arrival.{Arrival}
use Rattle.resend_window.specs.Kept.{somes}
use Rattle.resend_window.specs.Groups.{ArrivalItems}
use Rattle.resend_window.specs.Slots.{passes}
use Rattle.resend_window.specs.Lists.{is_from}
use Rattle.resend_window.proofs.Lists.{any_somes}
use Rattle.resend_window.proofs.arrival_list.ArrivalList.has.Goals as goal

pub returns-in-None : goal.returns-in-None
returns-in-None c =
    let t = is_from c.args.wanted.now in
    sym (none_any (passes t) c.deref.result.now c.in-None.ensures.none) ∙ any_somes t c.deref.result.now
    ∙ ap (λ (xs : List (Option Arrival)). list_any t (somes xs)) (c.deref.ensures.value ∙ ap (λ (l : ArrivalItems). l.items) c.self.view_is)

pub returns-in-Some : goal.returns-in-Some
returns-in-Some c =
    let t = is_from c.args.wanted.now in
    sym (first_any (passes t) c.deref.result.now c.in-Some.field-0 c.in-Some.ensures.first) ∙ any_somes t c.deref.result.now
    ∙ ap (λ (xs : List (Option Arrival)). list_any t (somes xs)) (c.deref.ensures.value ∙ ap (λ (l : ArrivalItems). l.items) c.self.view_is)
