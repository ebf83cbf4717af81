use Rattle.std.proofs.Common.{length, arith, sym, ◌∙◌, ap}
use Rattle.resend_window.specs.declared.awaited.Awaited.{Awaited}
use Rattle.resend_window.proofs.window.Window.room_orders.Goals as goal

pub returns-clause-orders : goal.returns-clause-orders
returns-clause-orders c =
    let few = c.count.ensures.count in
    let awaiting = c.in_ok-grow.ensures.ok in
    let slots = c.in_ok-grow-2.ensures.ok in
    omega arith
