use Rattle.std.proofs.Common.{ap, ◌∙◌}
use Rattle.qkd_base.specs.Lane.{reverse_lane}
use Rattle.run_audit.specs.Ledgers.{received_in}
use Rattle.whole_audit.specs.declared.blocks.Count.{Count}
use Rattle.whole_audit.specs.Kept.{count_at}
use Rattle.whole_audit.proofs.blocks.Counts.most_at_end.Goals as goal

pub returns : goal.returns
returns c before counted =
    c.received_in.ensures
    ∙ ap (λ (n : Count). received_in c.args.lane.now.way n.most) (c.at.ensures ∙ ap (count_at c.args.self.now) c.reversed.ensures ∙ counted (reverse_lane c.args.lane.now))
