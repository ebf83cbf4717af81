use Rattle.std.proofs.Common.{◌≡◌, ◌+◌, ℕ, List, Option, Some, None, ap, sym, ◌∙◌, subst, take, refl}
use Rattle.std.specs.Prelude.{slice_get}
use Rattle.qkd_base.specs.declared.lane.Lane.{Lane}
use Rattle.resend_window.specs.declared.held.Held.{Held}
use Rattle.resend_window.specs.Kept.{somes}
use Rattle.resend_window.specs.Lists.{IsLeast, lesser}
use Rattle.resend_window.specs.Repeating.{goes_after, offset_after}
use Rattle.relay_core.proofs.Firsts.{got}
use Rattle.resend_window.proofs.Edits.{take_more}
use Rattle.resend_window.proofs.Least.{least_more, held_there, offset_if}
use Rattle.resend_window.proofs.slots.walk_offsets.Goals as goal

pub offset_after-requires-clause-sent : goal.offset_after-requires-clause-sent
offset_after-requires-clause-sent c x e =
    held_there c.args.tick c.args.slots.now c.loop-slot.slot-index x c.requires.held (got c.args.slots.now c.loop-slot.slot-index c.slot-item.result c.loop-slot-test.true c.slot-item.is ∙ ap Some e)

same_offset : (tick : ℕ) (l : Lane) (after : Option ℕ) (o : Option Held) → offset_after tick l after o ≡ offset_if (goes_after tick l after) o
same_offset tick l after None = refl
same_offset tick l after (Some h) = refl

pub loop-slot-preserved : goal.loop-slot-preserved
loop-slot-preserved c =
    let there = got c.args.slots.now c.loop-slot.slot-index c.slot-item.result c.loop-slot-test.true c.slot-item.is in
    let t = goes_after (c.args.tick + 1) c.args.lane.now c.args.after in
    let more = least_more t (take c.loop-slot.slot-index c.args.slots.now) c.slot-item.result c.loop-slot.least c.loop-slot.invariant in
    let list = subst (λ (xs : List (Option Held)). IsLeast t (somes xs) (lesser c.loop-slot.least (offset_if t c.slot-item.result))) (sym (take_more c.args.slots.now c.loop-slot.slot-index c.slot-item.result there)) more in
    subst (λ (o : Option ℕ). IsLeast t (somes (take (c.loop-slot.slot-index + 1) c.args.slots.now)) o)
    (sym (c.lesser-least.ensures ∙ ap (lesser c.loop-slot.least) (c.offset_after.ensures ∙ same_offset (c.args.tick + 1) c.args.lane.now c.args.after c.slot-item.result))) list
