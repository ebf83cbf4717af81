use Rattle.std.proofs.Common.{ap, subst, sym, ◌∙◌, ◌-◌, ◌≡◌, arith, List, Option}
use Rattle.std.specs.Prelude.{map}
use Rattle.qkd_base.specs.declared.lane.Lane.{Lane}
use Rattle.net_model.specs.Window.{cleared}
use Rattle.resend_window.specs.declared.edit.Query.TheVariants.{DataOf}
use Rattle.resend_window.specs.declared.edit.Edit.TheVariants.{Remove}
use Rattle.resend_window.specs.Kept.{Kept, somes}
use Rattle.resend_window.specs.Slots.{removed, is_asked}
use Rattle.resend_window.proofs.Windows.{left_window, acknowledged_left}
use Rattle.resend_window.proofs.window.Window.acknowledged.Goals as goal

pub invariant_of-self : goal.invariant_of-self
invariant_of-self c =
    left_window c.self.inside.tick c.self.inside.slots.items c.remove.new.self.items (somes c.self.inside.awaiting.items) _ _ (DataOf c.reversed.result c.args.name) c.self.invariant c.remove.ensures.items
    (c.remove.ensures.spare)

pub returns-clause-volatile : goal.returns-clause-volatile
returns-clause-volatile c =
    acknowledged_left c.self.inside.tick c.self.inside.slots.items c.remove.new.self.items c.self.inside.pending.items c.self.inside.awaiting.items c.args.lane c.args.name
    (c.remove.ensures.items ∙ ap (λ (l : Lane). map (removed (is_asked (DataOf l c.args.name))) c.self.inside.slots.items) c.reversed.ensures)
    ∙ ap (λ (k : Kept). record (k.volatile) { window = cleared c.args.lane c.args.name k.volatile.window }) c.self.view_is
