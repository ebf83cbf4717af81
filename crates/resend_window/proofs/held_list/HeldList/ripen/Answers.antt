use Rattle.std.proofs.Common.{arith}
use Rattle.resend_window.specs.Kept.{somes}
use Rattle.resend_window.proofs.Edits.{ripened_all, ripened_none}
use Rattle.resend_window.proofs.held_list.HeldList.ripen.Goals as goal

pub returns-then-tick-ge3-clause-items : goal.returns-then-tick-ge3-clause-items
returns-then-tick-ge3-clause-items c = ripened_all c.args.tick c.args.self.now.items c.change.new.self.items c.if-tick-ge3.true c.change.ensures.items

pub returns-else-tick-ge3-clause-items : goal.returns-else-tick-ge3-clause-items
returns-else-tick-ge3-clause-items c =
    let early = c.if-tick-ge3.false in
    ripened_none c.args.tick (somes c.args.self.now.items) (omega arith)
