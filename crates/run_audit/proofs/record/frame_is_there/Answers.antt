use Rattle.std.proofs.Common.{◌≡◌, ℕ, Bool, ap, sym, ◌∙◌}
use Rattle.std.specs.Prelude.{nat_lt}
use Rattle.run_types.specs.declared.frame_result.FrameResult.{FrameResult}
use Rattle.run_audit.specs.declared.sums.LaneSum.{LaneSum}
use Rattle.run_audit.specs.Frames.{frames, sent_on}
use Rattle.run_audit.specs.Takings.{frame_is_there}
use Rattle.run_audit.proofs.Summing.{sent_below}
use Rattle.run_audit.proofs.record.frame_is_there.Goals as goal

pub returns-in-Taken : goal.returns-in-Taken
returns-in-Taken c before summed numbered =
    let sent : c.at.result.sent ≡ sent_on c.args.lane.now (frames before) = ap (λ (s : LaneSum). s.sent) (c.at.ensures ∙ summed c.args.lane.now) in
    ap (λ (n : ℕ). nat_lt n c.at.result.sent) c.from.ensures
    ∙ ap (nat_lt c.args.number) sent
    ∙ sent_below c.args.lane.now c.args.number (frames before) numbered
    ∙ ap (λ (outcome : FrameResult). frame_is_there c.args.lane.now c.args.number outcome (frames before)) (sym c.in-Taken.is)
