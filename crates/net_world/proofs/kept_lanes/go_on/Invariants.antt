use Rattle.std.proofs.Common.{◌≡◌}
use Rattle.net_world.proofs.GoingOn.{lane_of}
use Rattle.net_world.proofs.kept_lanes.go_on.Given as goal

abbrev pub invariant-loop-place : goal.invariant-loop-place
invariant-loop-place g l = l.side ≡ lane_of l.fn.side.lane l.fn.side.wire l.fn.kept.blocks.items l.place
