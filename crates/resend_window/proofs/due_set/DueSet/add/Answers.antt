use Rattle.std.proofs.Common.{sym, ◌∙◌}
use Rattle.resend_window.proofs.Alike.{added_ready, added_later}
use Rattle.resend_window.proofs.due_set.DueSet.add.Goals as goal

pub returns-then-not-is_ready : goal.returns-then-not-is_ready
returns-then-not-is_ready c slots was whole = added_later slots c.args.held.now c.args.self.now.entries (sym c.is_ready.ensures ∙ c.if-not-is_ready.true) (was whole)

pub returns-else-not-insert : goal.returns-else-not-insert
returns-else-not-insert c slots was whole =
    added_ready slots c.args.held.now c.args.self.now.entries c.insert.new.entries (sym c.is_ready.ensures ∙ c.if-not-is_ready.false) (was whole) (c.insert.ensures c.if-not-insert.false)
