-- How a lane of the program stands for a lane of the network.
use Rattle.std.specs.Prelude.{◌≡◌, ℕ, ◌≤◌, true, List, length, map, count_by, slice_get, is_some, IfSome}
use Rattle.qkd_base.specs.declared.lane.Lane.{Lane}
use Rattle.net_model.specs.World.{Network, World, received}
use Rattle.net_model.specs.Ledger.{is_burnt}
use Rattle.net_model.specs.Frames.{octets_sent, frame_octets}
use Rattle.net_model.specs.Premises.{IsNetwork}
use Rattle.net_model.specs.Invariant.{Conserved}
use Rattle.hop_frames.specs.Sealing.{hop_sealing}
use Rattle.lane_sender.specs.Lane.{LaneForm}
use Rattle.source_devices.specs.declared.wire.Wire as Wire

-- The program's network: its frames are hop frames, and its world has all conserved properties.
pub record IsRunning (net : Network) (w : World) : Type 0 where
  pub network : IsNetwork net
  pub conserved : Conserved net w
  pub sealing : net.sealing ≡ hop_sealing

-- the octets of the frames on a lane's wire
abbrev pub spelled_wire : Network → World → Lane → List (List ℕ)
spelled_wire net w l = map (λ j. frame_octets net w l (slice_get (w.frames l) j)) (w.wire l)

-- A wire of the program has as many frames as the lane's wire, and tells exactly their octets.
pub record WireStands {X : Type 0} (wire_says : Wire.Ghosts X) (net : Network) (w : World) (l : Lane) (wire : X) : Type 0 where
  pub count : wire_says.counted wire ≡ length (w.wire l)
  pub tells : is_some (wire_says.frames wire) ≡ true
  pub told : IfSome (wire_says.frames wire) (λ all. all ≡ spelled_wire net w l)

-- A lane has the bytes that its sender received. Those with an owner are used; those whose owner is gone are burnt. It claims bytes only below the
-- lease.
pub record LaneStands {X : Type 0} (wire_says : Wire.Ghosts X) (net : Network) (w : World) (l : Lane) (side : LaneForm X) : Type 0 where
  pub lane : side.lane ≡ l
  pub bytes : side.bytes ≡ octets_sent net w l
  pub received : side.ledger.received ≡ received w.durable l
  pub used : side.ledger.used ≡ length (w.durable.own l)
  pub burnt : side.ledger.burnt ≡ count_by is_burnt (w.durable.own l)
  pub end : side.ledger.end ≤ w.durable.lease l
  pub wire : WireStands wire_says net w l side.wire
