use Rattle.std.proofs.Common.{take}
use Rattle.net_model.specs.World.{Network, World}
use Rattle.run_lines.specs.Counting.{AreOn}
use Rattle.run_lines.proofs.settle_rounds.count_frames.Given as goal

abbrev pub invariant-loop-lane : goal.invariant-loop-lane
invariant-loop-lane g l = (n : Network) (w : World) → g.S.Acts.stands l.net n w → AreOn (take l.lane-index l.lanes) w (record { each = l.each; all = l.all })
