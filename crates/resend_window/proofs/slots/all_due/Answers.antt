use Rattle.std.proofs.Common.{◌≡◌, ◌+◌, ◌++◌, ◌∷◌, [], List, Option, take, ap, sym, subst, ◌∙◌}
use Rattle.relay_core.proofs.Firsts.{got}
use Rattle.resend_window.specs.declared.held.Held.{Held}
use Rattle.resend_window.specs.declared.due_set.DueSet.{DueSet}
use Rattle.resend_window.specs.Dues.{AreDues, HasDues}
use Rattle.resend_window.proofs.Edits.{take_more}
use Rattle.resend_window.proofs.Alike.{added_gap}
use Rattle.resend_window.proofs.slots.all_due.Goals as goal
use Rattle.resend_window.proofs.slots.all_due.Goals.{in-None, in-Some}

pub loop-slot-preserved : goal.loop-slot-preserved
loop-slot-preserved c =
    let first = take c.loop-slot.slot-index c.args.slots.now in
    let there = got c.args.slots.now c.loop-slot.slot-index c.slot-item.result c.loop-slot-test.true c.slot-item.is in
    let more = take_more c.args.slots.now c.loop-slot.slot-index c.slot-item.result there in
    elim c.match-slot.branch [
      | in-None w ↦
          subst (λ (d : DueSet). HasDues (take (c.loop-slot.slot-index + 1) c.args.slots.now) d) (sym w.dues-is)
          (λ whole. subst (λ (xs : List (Option Held)). AreDues xs c.loop-slot.dues.entries) (sym (more ∙ ap (λ (o : Option Held). first ++ o ∷ []) w.in-None.is))
          (added_gap first c.loop-slot.dues.entries (c.loop-slot.invariant whole)))
      | in-Some w ↦
          subst (λ (d : DueSet). HasDues (take (c.loop-slot.slot-index + 1) c.args.slots.now) d) (sym w.dues-is)
          (subst (λ (xs : List (Option Held)). HasDues xs w.add.new.self) (sym (more ∙ ap (λ (o : Option Held). first ++ o ∷ []) w.in-Some.is)) (w.add.ensures first c.loop-slot.invariant))
    ]
