use Rattle.std.proofs.Common.{ap, sym, ◌∙◌, ◌≡◌, Bool, true, false}
use Rattle.std.specs.Prelude.{if◌then◌else◌}
use Rattle.net_model.specs.Window.{transmission_of, is_acked_item}
use Rattle.resend_window.specs.Placed.{order_placed, repeat_placed}
use Rattle.resend_window.proofs.Placings.{complete_is}
use Rattle.resend_window.proofs.window.Window.completed.Goals as goal

pub returns-then-placing-clause-volatile : goal.returns-then-placing-clause-volatile
returns-then-placing-clause-volatile c acked e =
    c.completed_order.ensures.volatile
    ∙ ap (λ (b : Bool). order_placed b c.args.self.now.volatile c.args.placing.now) e
    ∙ sym (complete_is acked c.args.self.now.volatile c.args.placing.now
    ∙ ap (λ (b : Bool). if b then order_placed (is_acked_item acked (transmission_of c.args.placing.now).item) c.args.self.now.volatile c.args.placing.now else repeat_placed c.args.self.now.volatile c.args.placing.now)
    c.if-placing.true)

pub returns-else-placing-clause-volatile : goal.returns-else-placing-clause-volatile
returns-else-placing-clause-volatile c acked e =
    c.completed_repeat.ensures.volatile
    ∙ sym (complete_is acked c.args.self.now.volatile c.args.placing.now
    ∙ ap (λ (b : Bool). if b then order_placed (is_acked_item acked (transmission_of c.args.placing.now).item) c.args.self.now.volatile c.args.placing.now else repeat_placed c.args.self.now.volatile c.args.placing.now)
    c.if-placing.false)
