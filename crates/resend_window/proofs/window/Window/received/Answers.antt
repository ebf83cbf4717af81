use Rattle.std.proofs.Common.{ap, subst, sym, ◌∙◌, ◌-◌, ◌≡◌, arith, List, Option}
use Rattle.std.specs.Prelude.{map}
use Rattle.std.specs.List.{list_any}
use Rattle.net_model.specs.Window.{acknowledge}
use Rattle.resend_window.specs.declared.edit.Query.{Query}
use Rattle.resend_window.specs.declared.edit.Edit.TheVariants.{MarkDue}
use Rattle.resend_window.specs.declared.arrival.Arrivals.{Arrivals}
use Rattle.resend_window.specs.Lists.{is_from}
use Rattle.resend_window.specs.Kept.{Kept, somes}
use Rattle.resend_window.specs.Slots.{edited, is_asked}
use Rattle.resend_window.proofs.Windows.{marked_window, received_sent, received_pending, received_new}
use Rattle.resend_window.proofs.window.Window.received.Goals as goal

pub invariant_of-self : goal.invariant_of-self
invariant_of-self c =
    marked_window c.self.inside.tick c.self.inside.slots.items c.change.new.self.items (somes c.self.inside.awaiting.items) _ _ c.answer-answer.result c.self.invariant c.change.ensures.items
    (c.change.ensures.spare)

pub returns-then-has-clause-volatile : goal.returns-then-has-clause-volatile
returns-then-has-clause-volatile c =
    received_sent c.self.inside.tick c.self.inside.slots.items c.change.new.self.items c.self.inside.pending.items c.self.inside.awaiting.items c.args.lane c.args.offset c.args.name
    (ap (λ (q : Query). list_any (is_asked q) (somes c.self.inside.slots.items)) (sym c.answer-answer.ensures) ∙ sym c.if-has.ensures)
    (c.change.ensures.items ∙ ap (λ (q : Query). map (edited q MarkDue) c.self.inside.slots.items) c.answer-answer.ensures)
    ∙ ap (λ (k : Kept). acknowledge k.volatile c.args.lane c.args.offset c.args.name) c.self.view_is

pub returns-then-not-has-clause-volatile : goal.returns-then-not-has-clause-volatile
returns-then-not-has-clause-volatile c =
    received_new c.self.inside.tick c.self.inside.slots.items c.self.inside.pending.items c.push.new.self.items c.self.inside.awaiting.items
    (record { lane = c.args.lane; offset = c.args.offset; name = c.args.name })
    (ap (λ (q : Query). list_any (is_asked q) (somes c.self.inside.slots.items)) (sym c.answer-answer.ensures) ∙ sym c.if-has.ensures)
    (ap (λ (q : Arrivals). list_any (is_from q) (somes c.self.inside.pending.items)) (sym c.same.ensures) ∙ sym c.if-not-has.ensures)
    c.push.ensures.items
    ∙ ap (λ (k : Kept). acknowledge k.volatile c.args.lane c.args.offset c.args.name) c.self.view_is

pub returns-else-not-has-clause-volatile : goal.returns-else-not-has-clause-volatile
returns-else-not-has-clause-volatile c =
    sym (ap (λ (k : Kept). k.volatile) c.self.view_is)
    ∙ received_pending c.self.inside.tick c.self.inside.slots.items c.self.inside.pending.items c.self.inside.awaiting.items c.args.lane c.args.offset c.args.name
    (ap (λ (q : Query). list_any (is_asked q) (somes c.self.inside.slots.items)) (sym c.answer-answer.ensures) ∙ sym c.if-has.ensures)
    (ap (λ (q : Arrivals). list_any (is_from q) (somes c.self.inside.pending.items)) (sym c.same.ensures) ∙ sym c.if-not-has.ensures)
    ∙ ap (λ (k : Kept). acknowledge k.volatile c.args.lane c.args.offset c.args.name) c.self.view_is
