use Rattle.std.proofs.Common.{◌≡◌, ℕ, ◌<◌, false}
use Rattle.std.specs.Prelude.{slice_get}
use Rattle.net_model.specs.World.{Network, World}
use Rattle.world_nodes.specs.LaneStands.{IsRunning, LaneStands}
use Rattle.world_state.specs.Frames.{frame_is}
use Rattle.world_state.proofs.wire_search.any_has.Given as goal

abbrev pub invariant-loop-number : goal.invariant-loop-number
invariant-loop-number g l = (net : Network) (w : World) → IsRunning net w → LaneStands g.X.Wire net w l.fn.side.lane l.fn.side →
    (k : ℕ) → k < l.number → frame_is net w l.fn.side.lane l.fn.octets (slice_get (w.wire l.fn.side.lane) k) ≡ false
