use Rattle.std.proofs.Common.{sym, ◌∙◌}
use Rattle.resend_window.proofs.Alike.{noted_due, noted_gone}
use Rattle.resend_window.proofs.due_set.DueSet.note.Goals as goal

pub returns-then-not-is_due : goal.returns-then-not-is_due
returns-then-not-is_due c before after alike is was whole =
    noted_gone c.args.lane.now c.args.offset before after c.args.self.now.entries c.take_out.new.entries alike (sym is ∙ c.if-not-is_due.true) (was whole) c.take_out.ensures

pub returns-else-not-insert : goal.returns-else-not-insert
returns-else-not-insert c before after alike is was whole =
    noted_due c.args.lane.now c.args.offset before after c.args.self.now.entries c.insert.new.entries alike (sym is ∙ c.if-not-is_due.false) (was whole) (c.insert.ensures c.if-not-insert.false)
