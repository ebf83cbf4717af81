-- A machine of a block may be sent to another thread if its disk and entropy, or its wire, may be.
use denote.RattleType.{RattleType}
use denote.Ref.{NamedLft}
use denote.Struct.Declared.{shape}
use denote.Param.Send.{IsSend, IsSync, sendable, part_keyless, recorded_sync, struct_sync}
use Rattle.std.proofs.Crossing.{crosses}
use Rattle.std.specs.contracts.snapshot.Snapshot as Snapshot
use Rattle.disk_model.specs.declared.disk.Disk as Disk
use Rattle.source_devices.specs.declared.device.Device as Device
use Rattle.source_devices.specs.declared.entropy.Entropy as Entropy
use Rattle.source_devices.specs.declared.wire.Wire as Wire
use Rattle.shared_objects.proofs.either.Either.TheSendSync as either
use Rattle.shared_objects.specs.contracts.either.Either as Either
use Rattle.par_lanes.specs.contracts.desk.LaneDesk as LaneDesk
use Rattle.par_managers.specs.contracts.desk.PlanDesk.{the_row as plan_desk_row}
use Rattle.lane_shares.specs.contracts.shares.Shares as Shares
use Rattle.lane_shares.proofs.shares.Shares.TheSendSync as shares
use Rattle.par_lanes.specs.contracts.plan.Lanes as Lanes
use Rattle.kme_shared.specs.contracts.errands.BlockErrands as BlockErrands
use Rattle.world_state.specs.contracts.state.State.{the_row as state_row}
use Rattle.par_managers.proofs.Sent.{desk_send, lane_send}

module _ (a : NamedLft) (K Q E X : RattleType) (disk : Disk.Ghosts K.Denot) (device : Device.Ghosts Q.Denot) (entropy : Entropy.Ghosts E.Denot) (wire : Wire.Ghosts X.Denot) (disk_send : IsSend K) (entropy_send : IsSend E)
    (wire_send : IsSend X) where
  manager_send : IsSend (plan_desk_row a K Q E X disk device entropy wire)
  manager_send = desk_send a K Q E X disk device entropy wire disk_send entropy_send

  side_send : IsSend (LaneDesk.the_row a X wire)
  side_send = lane_send a X wire wire_send

  pub seat_send : IsSend (Either.the_row (plan_desk_row a K Q E X disk device entropy wire) (LaneDesk.the_row a X wire))
  seat_send = search (either.the_send, manager_send, side_send, sendable, crosses)

-- Threads may share the errands.

shares_sync : IsSync Shares.the_row
shares_sync = search (shares.the_sync, sendable)

lanes_sync : (a : NamedLft) → IsSync (Lanes.the_field a).row
lanes_sync a = struct_sync (shape (Lanes.the_type a)) (search sendable, (search (shares_sync, sendable), tt))

snapshot_send : (R : RattleType) → IsSend (Snapshot.the_field R).row
snapshot_send R = search sendable

snapshot_sync : (R : RattleType) → IsSync (Snapshot.the_field R).row
snapshot_sync R = record { shared = λ d b o κ q. part_keyless (Snapshot.the_field R).row (snapshot_send R) q d b o }

pub errands_sync : (a : NamedLft) (K Q E X : RattleType) (disk : Disk.Ghosts K.Denot) (entropy : Entropy.Ghosts E.Denot) (wire : Wire.Ghosts X.Denot) → IsSync (BlockErrands.the_row a K Q E X disk entropy wire)
errands_sync a K Q E X disk entropy wire =
    let errands = BlockErrands.the_type a K Q E X disk entropy wire in
    recorded_sync _ _ errands.to errands.to_one (struct_sync (shape errands) (search (sendable, crosses), (lanes_sync a, (snapshot_sync (state_row K Q E X disk entropy wire), tt))))
