use Rattle.std.proofs.Common.{ap, subst, sym, ◌∙◌, ◌+◌, ◌-◌, ◌≡◌, ◌≤◌, length, arith, List, Option}
use Rattle.std.specs.Prelude.{map}
use Rattle.kme_base.specs.Steps.{planned}
use Rattle.resend_window.specs.Kept.{Kept, somes}
use Rattle.resend_window.specs.Lists.{ripened_at}
use Rattle.resend_window.proofs.Windows.{planned_window, planned_value}
use Rattle.resend_window.proofs.window.Window.planned.Goals as goal

pub invariant_of-self : goal.invariant_of-self
invariant_of-self c =
    let room : length c.args.orders.now ≤ c.args.self.now.orders_spare = c.requires.room in
    let e = ap (λ (k : Kept). k.orders_spare) c.self.view_is in
    let items = c.ripen.ensures.items ∙ ap (map (ripened_at (c.self.inside.tick + 1))) c.renew_all.ensures.items in
    planned_window c.self.inside.tick c.self.inside.slots.items c.ripen.new.self.items c.self.inside.awaiting.items c.push_all.new.self.items c.args.orders.now c.args.repeats.now _ _ c.self.invariant
    items c.push_all.ensures.items (c.ripen.ensures.spare ∙ c.renew_all.ensures.spare) (omega arith)

pub returns-clause-volatile : goal.returns-clause-volatile
returns-clause-volatile c =
    let items = c.ripen.ensures.items ∙ ap (map (ripened_at (c.self.inside.tick + 1))) c.renew_all.ensures.items in
    planned_value c.self.inside.tick c.self.inside.slots.items c.ripen.new.self.items c.self.inside.pending.items c.self.inside.awaiting.items c.push_all.new.self.items c.args.orders.now c.args.repeats.now
    c.self.invariant.held items c.push_all.ensures.items
    ∙ ap (λ (k : Kept). planned c.args.orders.now c.args.repeats.now k.volatile) c.self.view_is
