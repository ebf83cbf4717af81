use Rattle.std.proofs.Common.{ap, sym, ◌∙◌, ◌-◌, ◌≡◌, arith, List, Option}
use Rattle.resend_window.specs.declared.edit.Query.TheVariants.{At}
use Rattle.resend_window.specs.Kept.{Kept, somes}
use Rattle.resend_window.specs.Placed.{repeat_placed}
use Rattle.resend_window.proofs.Windows.{marked_window, numbered_window}
use Rattle.resend_window.proofs.Placings.{repeat_refused, repeat_put}
use Rattle.resend_window.proofs.window.Window.completed_repeat.Goals as goal

pub invariant_of-self : goal.invariant_of-self
invariant_of-self c =
    numbered_window c.self.inside.tick c.self.inside.slots.items c.change.new.self.items (somes c.self.inside.awaiting.items) _ _ (At c.args.placing.now.lane c.args.placing.now.offset) c.in-Some.number c.self.invariant
    c.change.ensures.items (c.change.ensures.spare)

pub invariant_of-self-in-None : goal.invariant_of-self-in-None
invariant_of-self-in-None c =
    marked_window c.self.inside.tick c.self.inside.slots.items c.change-in-None.new.self.items (somes c.self.inside.awaiting.items) _ _ (At c.args.placing.now.lane c.args.placing.now.offset) c.self.invariant
    c.change-in-None.ensures.items (c.change-in-None.ensures.spare)

pub returns-in-Some-clause-volatile : goal.returns-in-Some-clause-volatile
returns-in-Some-clause-volatile c =
    repeat_put c.self.inside.tick c.self.inside.slots.items c.change.new.self.items c.self.inside.pending.items c.self.inside.awaiting.items c.args.placing.now c.in-Some.number c.in-Some.is c.change.ensures.items
    ∙ ap (λ (k : Kept). repeat_placed k.volatile c.args.placing.now) c.self.view_is

pub returns-in-None-clause-volatile : goal.returns-in-None-clause-volatile
returns-in-None-clause-volatile c =
    repeat_refused c.self.inside.tick c.self.inside.slots.items c.change-in-None.new.self.items c.self.inside.pending.items c.self.inside.awaiting.items c.args.placing.now c.in-None.is c.change-in-None.ensures.items
    ∙ ap (λ (k : Kept). repeat_placed k.volatile c.args.placing.now) c.self.view_is
