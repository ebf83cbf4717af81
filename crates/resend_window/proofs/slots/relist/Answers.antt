use Rattle.std.proofs.Common.{◌≡◌, true, false, ap, sym, ◌∙◌}
use Rattle.resend_window.specs.declared.edit.Edit.{Edit}
use Rattle.resend_window.specs.Groups.{held_groups, is_removal}
use Rattle.resend_window.specs.Slots.{edit}
use Rattle.resend_window.proofs.Catalogues.{catalogue_kept}
use Rattle.resend_window.proofs.slots.relist.Goals as goal

pub returns-in-MarkDue : goal.returns-in-MarkDue
returns-in-MarkDue c keys within there was whole =
    catalogue_kept keys c.args.place (held_groups (edit c.args.change.now c.args.held.now)) c.args.index.now.entries (was whole) (there ∙ ap (λ (e : Edit). held_groups (edit e c.args.held.now)) (sym c.in-MarkDue.is))

pub returns-in-Renumber : goal.returns-in-Renumber
returns-in-Renumber c keys within there was whole =
    catalogue_kept keys c.args.place (held_groups (edit c.args.change.now c.args.held.now)) c.args.index.now.entries (was whole) (there ∙ ap (λ (e : Edit). held_groups (edit e c.args.held.now)) (sym c.in-Renumber.is))

pub returns-in-Ripen : goal.returns-in-Ripen
returns-in-Ripen c keys within there was whole =
    catalogue_kept keys c.args.place (held_groups (edit c.args.change.now c.args.held.now)) c.args.index.now.entries (was whole) (there ∙ ap (λ (e : Edit). held_groups (edit e c.args.held.now)) (sym c.in-Ripen.is))

pub returns-in-Remove : goal.returns-in-Remove
returns-in-Remove c = let u : true ≡ false = ap is_removal (sym c.in-Remove.is) ∙ c.requires in absurd (let z : ⊥ = cc in z)
