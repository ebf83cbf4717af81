use Rattle.resend_window.proofs.Ready.{least_due, none_due}
use Rattle.resend_window.proofs.slots.next_offset.Goals as goal

pub returns-in-None : goal.returns-in-None
returns-in-None c = none_due c.args.tick c.args.lane.now c.args.after c.args.slots.now c.args.dues.now.entries c.requires.held (c.requires.dues c.if-not-dues.false) c.in-None.ensures.last

pub returns-in-Some : goal.returns-in-Some
returns-in-Some c = least_due c.args.tick c.args.lane.now c.args.after c.args.slots.now c.args.dues.now.entries c.in-Some.offset c.requires.held (c.requires.dues c.if-not-dues.false) c.in-Some.ensures.next
