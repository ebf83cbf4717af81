use Rattle.std.proofs.Common.{◌≡◌, take, drop}
use Rattle.qkd_base.specs.LaneBytes.{lane_octets}
use Rattle.link_segments.proofs.segments.copy_lane.Given as goal

abbrev pub invariant-loop-i : goal.invariant-loop-i
invariant-loop-i l = take l.i l.into ≡ take l.i (drop l.off (lane_octets l.fn.way l.blocks))
