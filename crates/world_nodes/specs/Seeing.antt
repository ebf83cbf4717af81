-- Reading the frames on a lane's wire.
use Rattle.std.specs.Prelude.{◌≡◌, ℕ, List, take, slice_get, Option, Some, None}
use Rattle.qkd_base.specs.declared.lane.Lane.{Lane}
use Rattle.net_model.specs.World.{Network, World}
use Rattle.net_model.specs.Frames.{frame_octets}

-- If the wire tells its frames, the octets that it gave are the frame's. If it doesn't, nothing is known of them.
abbrev pub IsTold : Option (List (List ℕ)) → List ℕ → List ℕ → Type 0
IsTold None given frame = Unit {0}
IsTold (Some frames) given frame = given ≡ frame

-- The first n octets are those of the frame with this number on the wire.
pub record IsSeen (known : Option (List (List ℕ))) (net : Network) (w : World) (l : Lane) (number n : ℕ) (octets : List ℕ) : Type 0 where
  pub frame : ℕ
  pub stands : slice_get (w.wire l) number ≡ Some frame
  pub told : IsTold known (take n octets) (frame_octets net w l (slice_get (w.frames l) frame))
