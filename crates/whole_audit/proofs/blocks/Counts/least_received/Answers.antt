use Rattle.std.proofs.Common.{ap, ◌∙◌}
use Rattle.run_audit.specs.Ledgers.{received_in}
use Rattle.whole_audit.specs.declared.blocks.Count.{Count}
use Rattle.whole_audit.proofs.blocks.Counts.least_received.Goals as goal

pub returns : goal.returns
returns c before counted = c.received_in.ensures ∙ ap (λ (n : Count). received_in c.args.lane.now.way n.least) (c.at.ensures ∙ counted c.args.lane.now)
