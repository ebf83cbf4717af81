-- Frames on a lane's wire.
use Rattle.std.specs.Prelude.{◌≡◌, ℕ, ◌*◌, nat_le, Bool, false, List, length, slice_get, Option, Some, None}
use Rattle.qkd_base.specs.declared.lane.Lane.{Lane}
use Rattle.net_model.specs.World.{Network, World}
use Rattle.net_model.specs.Frames.{frame_octets, octets_eq, with_flipped}

-- These are the octets of the frame with this number.
pub record IsOnWire (net : Network) (w : World) (l : Lane) (number : ℕ) (octets : List ℕ) : Type 0 where
  pub frame : ℕ
  pub there : slice_get (w.wire l) number ≡ Some frame
  pub are : octets ≡ frame_octets net w l (slice_get (w.frames l) frame)

-- These are the octets of the frame with this number, with one of its bits changed.
pub record IsChanged (net : Network) (w : World) (l : Lane) (number bit : ℕ) (octets : List ℕ) : Type 0 where
  pub frame : ℕ
  pub there : slice_get (w.wire l) number ≡ Some frame
  pub has : nat_le (8 * length (frame_octets net w l (slice_get (w.frames l) frame))) bit ≡ false
  pub are : octets ≡ with_flipped (frame_octets net w l (slice_get (w.frames l) frame)) bit

-- There is a frame at this place of the wire, and it has these octets.
abbrev pub frame_is : Network → World → Lane → List ℕ → Option ℕ → Bool
frame_is net w l octets None = false
frame_is net w l octets (Some frame) = octets_eq (frame_octets net w l (slice_get (w.frames l) frame)) octets
