use Rattle.std.proofs.Common.{◌≡◌, ◌+◌, ◌∷◌, ℕ, List, Option, Some, ap, sym, ◌∙◌}
use Rattle.net_model.specs.declared.repeat.Repeat.{Repeat}
use Rattle.resend_window.specs.declared.edit.Query.TheVariants.{At}
use Rattle.resend_window.specs.Kept.{somes}
use Rattle.resend_window.specs.Slots.{is_asked}
use Rattle.resend_window.specs.Repeating.{rest_after}
use Rattle.resend_window.proofs.Dues.{none_after, one_after, due_found, held_find, offset_found}
use Rattle.resend_window.proofs.due_repeats.next_repeat.Goals as goal

pub returns-in-None-clause-none : goal.returns-in-None-clause-none
returns-in-None-clause-none c = none_after (c.args.tick + 1) c.args.lane.now (somes c.args.slots.now.items) c.args.after c.in-None.ensures

pub returns-in-None-first-clause-none : goal.returns-in-None-first-clause-none
returns-in-None-first-clause-none c = absurd (due_found (c.args.tick + 1) c.args.lane.now (somes c.args.slots.now.items) c.args.after c.in-Some.offset c.in-Some.ensures (sym c.in-None-first.ensures))

pub returns-in-Some-first-clause-some : goal.returns-in-Some-first-clause-some
returns-in-Some-first-clause-some c =
    let k = c.in-Some-first.held.now in
    let hs = somes c.args.slots.now.items in
    let found = sym c.in-Some-first.ensures in
    let held = held_find c.args.tick (is_asked (At c.args.lane.now c.in-Some.offset)) hs k c.requires.held found in
    let is = c.repeat.ensures (c.args.tick + 1) c.args.tick held in
    let at = offset_found c.args.lane.now c.in-Some.offset hs k found in
    one_after (c.args.tick + 1) c.args.lane.now hs c.args.after c.in-Some.offset k c.requires.apart c.in-Some.ensures found
    ∙ ap (λ (r : Repeat). r ∷ rest_after (c.args.tick + 1) c.args.lane.now hs (Some c.in-Some.offset)) (sym is)
    ∙ ap (λ (x : ℕ). c.repeat.result ∷ rest_after (c.args.tick + 1) c.args.lane.now hs (Some x)) (sym (ap (λ (r : Repeat). r.offset) is ∙ at))
