use Rattle.std.proofs.Common.{◌≡◌, ◌+◌, ◌∷◌, [], List, Option, ap, subst, sym, ◌∙◌, arith}
use Rattle.std.specs.Prelude.{map, slice_get, IfSome}
use Rattle.relay_core.proofs.Firsts.{get_within}
use Rattle.resend_window.specs.declared.arrival.Arrival.{Arrival}
use Rattle.resend_window.specs.declared.arrival.Arrivals.TheVariants.{Of}
use Rattle.resend_window.specs.Held.{pending_ack}
use Rattle.resend_window.specs.Groups.{ArrivalItems}
use Rattle.resend_window.specs.Lists.{is_from, pending_of, rest_of}
use Rattle.resend_window.proofs.Placings.{pending_is, none_rest, next_is, next_place}
use Rattle.resend_window.proofs.arrival_list.ArrivalList.next.Goals as goal

pub returns-in-None-clause-none : goal.returns-in-None-clause-none
returns-in-None-clause-none c =
    let same = c.deref.ensures.value ∙ ap (λ (l : ArrivalItems). l.items) c.self.view_is in
    ap (λ (xs : List (Option Arrival)). rest_of c.args.lane xs c.args.from) (sym same)
    ∙ pending_is c.args.lane c.deref.result.now c.args.from
    ∙ ap (map pending_ack) (none_rest (is_from (Of c.args.lane)) c.deref.result.now c.args.from c.in-None.ensures.none)

pub returns-in-Some-clause-some : goal.returns-in-Some-clause-some
returns-in-Some-clause-some c =
    let same = c.deref.ensures.value ∙ ap (λ (l : ArrivalItems). l.items) c.self.view_is in
    let found = c.pending_at.ensures ∙ ap (λ (xs : List (Option Arrival)). pending_of c.in-Some.place (slice_get xs c.in-Some.place)) (c.deref-in-Some.ensures.value ∙ sym c.deref.ensures.value) in
    subst (λ (xs : List (Option Arrival)). IfSome c.pending_at.result (λ p. rest_of c.args.lane xs c.args.from ≡ record { lane = c.args.lane; offset = p.offset; name = p.name } ∷ rest_of c.args.lane xs (p.place + 1))) same
    (next_is c.args.lane c.deref.result.now c.args.from c.in-Some.place c.pending_at.result c.in-Some.ensures.first found)

pub returns-in-Some-clause-place : goal.returns-in-Some-clause-place
returns-in-Some-clause-place c =
    let first = c.in-Some.ensures.first in
    let within = get_within c.deref.result.now c.in-Some.place first.item first.there in
    let size = c.deref.ensures.len in
    let small = c.self.inside.items.small in
    let ok = c.self.inside.items.ok in
    next_place c.deref-in-Some.result.now c.in-Some.place c.pending_at.result c.pending_at.ensures (omega arith)
