use Rattle.std.proofs.Common.{◌≡◌, Bool, List, ℕ, Option, Some, ap, sym, subst, ◌∙◌, if◌then◌else◌}
use Rattle.std.specs.Prelude.{slice_set}
use Rattle.resend_window.specs.declared.held.Held.{Held}
use Rattle.resend_window.specs.Catalogued.{Catalogues}
use Rattle.resend_window.specs.Groups.{held_groups}
use Rattle.resend_window.specs.Slots.{edit, edited}
use Rattle.resend_window.proofs.Catalogues.{catalogue_kept}
use Rattle.resend_window.proofs.slots.relist_asked.Goals as goal

pub returns-in-None : goal.returns-in-None
returns-in-None c keys within there was whole =
    catalogue_kept keys c.args.place (held_groups (edited c.args.query.now c.args.change.now c.args.slot.now)) c.args.index.now.entries (was whole)
    (there ∙ ap held_groups c.in-None.is ∙ sym (ap (λ (o : Option Held). held_groups (edited c.args.query.now c.args.change.now o)) c.in-None.is))

pub returns-then-asks : goal.returns-then-asks
returns-then-asks c keys within there was =
    let h = c.in-Some.held in
    subst (λ (gs : List (List ℕ)). Catalogues (slice_set keys c.args.place gs) c.relist.new.index)
    (sym (ap (λ (o : Option Held). held_groups (edited c.args.query.now c.args.change.now o)) c.in-Some.is
    ∙ ap (λ (b : Bool). held_groups (if b then edit c.args.change.now h else Some h)) (sym c.if-asks.ensures)))
    (c.relist.ensures keys within (there ∙ ap held_groups c.in-Some.is) was)

pub returns-else-asks : goal.returns-else-asks
returns-else-asks c keys within there was whole =
    let h = c.in-Some.held in
    catalogue_kept keys c.args.place (held_groups (edited c.args.query.now c.args.change.now c.args.slot.now)) c.args.index.now.entries (was whole)
    (there ∙ ap held_groups c.in-Some.is
    ∙ sym (ap (λ (o : Option Held). held_groups (edited c.args.query.now c.args.change.now o)) c.in-Some.is
    ∙ ap (λ (b : Bool). held_groups (if b then edit c.args.change.now h else Some h)) (sym c.if-asks.ensures)))
