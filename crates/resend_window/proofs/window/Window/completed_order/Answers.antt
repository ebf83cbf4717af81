use Rattle.std.proofs.Common.{ap, subst, sym, ◌∙◌, ◌≡◌, true, false, arith, List, Option}
use Rattle.std.specs.Prelude.{map}
use Rattle.std.specs.List.{list_any}
use Rattle.net_model.specs.World.{Transmission}
use Rattle.net_model.specs.Window.{transmission_of, transmission_eq, stands_at}
use Rattle.resend_window.specs.declared.edit.Query.TheVariants.{At}
use Rattle.resend_window.specs.Held.{transmission, entry_at}
use Rattle.resend_window.specs.Kept.{Kept, somes}
use Rattle.resend_window.specs.Slots.{is_asked}
use Rattle.resend_window.specs.Lists.{is_same}
use Rattle.resend_window.proofs.Lists.{any_map}
use Rattle.resend_window.proofs.Placings.{was_placed, was_taken, was_unknown}
use Rattle.resend_window.proofs.window.Window.completed_order.Goals as goal

pub place_order-requires-clause-awaited : goal.place_order-requires-clause-awaited
place_order-requires-clause-awaited c =
    sym (ap (λ (k : Kept). list_any (transmission_eq (transmission_of c.args.placing.now)) k.volatile.awaiting) c.self.view_is)
    ∙ sym (ap (λ (t : Transmission). list_any (transmission_eq t) (map transmission (somes c.self.inside.awaiting.items))) c.new-wanted.ensures)
    ∙ any_map transmission (transmission_eq (transmission c.new-wanted.result)) (somes c.self.inside.awaiting.items)
    ∙ sym c.if-has.ensures

pub place_order-requires-clause-free : goal.place_order-requires-clause-free
place_order-requires-clause-free c =
    sym (ap (λ (k : Kept). list_any (stands_at c.args.placing.now) k.volatile.window) c.self.view_is)
    ∙ any_map (entry_at c.self.inside.tick) (stands_at c.args.placing.now) (somes c.self.inside.slots.items)
    ∙ sym c.if-not-has.ensures

pub returns-then-not-has-clause-volatile : goal.returns-then-not-has-clause-volatile
returns-then-not-has-clause-volatile c =
    c.place_order.ensures.volatile
    ∙ was_placed c.args.is_acked c.args.self.now.volatile c.args.placing.now
    (sym (ap (λ (k : Kept). list_any (transmission_eq (transmission_of c.args.placing.now)) k.volatile.awaiting) c.self.view_is)
    ∙ sym (ap (λ (t : Transmission). list_any (transmission_eq t) (map transmission (somes c.self.inside.awaiting.items))) c.new-wanted.ensures)
    ∙ any_map transmission (transmission_eq (transmission c.new-wanted.result)) (somes c.self.inside.awaiting.items)
    ∙ sym c.if-has.ensures)
    (sym (ap (λ (k : Kept). list_any (stands_at c.args.placing.now) k.volatile.window) c.self.view_is)
    ∙ any_map (entry_at c.self.inside.tick) (stands_at c.args.placing.now) (somes c.self.inside.slots.items)
    ∙ sym c.if-not-has.ensures)

pub returns-else-not-has-clause-volatile : goal.returns-else-not-has-clause-volatile
returns-else-not-has-clause-volatile c =
    was_taken c.args.is_acked c.args.self.now.volatile c.args.placing.now
    (sym (ap (λ (k : Kept). list_any (stands_at c.args.placing.now) k.volatile.window) c.self.view_is)
    ∙ any_map (entry_at c.self.inside.tick) (stands_at c.args.placing.now) (somes c.self.inside.slots.items)
    ∙ sym c.if-not-has.ensures)

pub returns-else-has-clause-volatile : goal.returns-else-has-clause-volatile
returns-else-has-clause-volatile c =
    was_unknown c.args.is_acked c.args.self.now.volatile c.args.placing.now
    (sym (ap (λ (k : Kept). list_any (transmission_eq (transmission_of c.args.placing.now)) k.volatile.awaiting) c.self.view_is)
    ∙ sym (ap (λ (t : Transmission). list_any (transmission_eq t) (map transmission (somes c.self.inside.awaiting.items))) c.new-wanted.ensures)
    ∙ any_map transmission (transmission_eq (transmission c.new-wanted.result)) (somes c.self.inside.awaiting.items)
    ∙ sym c.if-has.ensures)
