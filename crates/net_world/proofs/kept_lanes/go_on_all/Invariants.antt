use Rattle.net_world.proofs.GoingOn.{AreGoing}
use Rattle.net_world.proofs.kept_lanes.go_on_all.Given as goal

abbrev pub invariant-loop-place : goal.invariant-loop-place
invariant-loop-place g l = AreGoing l.fn.kept l.fn.lanes.items l.place l.lanes.items
