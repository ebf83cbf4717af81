-- A manager's desk may be sent to another thread if its disk and its entropy may. A lane's desk may be sent if its wire may.
use denote.RattleType.{RattleType}
use denote.Ref.{NamedLft}
use denote.Struct.Declared.{shape}
use denote.Param.Send.{IsSend, IsSync, sendable, recorded_send, struct_send}
use Rattle.std.proofs.Crossing.{crosses, Vec-send}
use Rattle.std.proofs.CrossingOver as more
use Rattle.std.proofs.MapsCrossing as maps
use Rattle.disk_model.specs.declared.disk.Disk as Disk
use Rattle.source_devices.specs.declared.device.Device as Device
use Rattle.source_devices.specs.declared.entropy.Entropy as Entropy
use Rattle.source_devices.specs.declared.wire.Wire as Wire
use Rattle.declared_site.specs.contracts.site.Site as Site
use Rattle.lane_shares.specs.contracts.share.Share as Share
use Rattle.lane_shares.specs.contracts.shares.Shares as Shares
use Rattle.lane_shares.proofs.share.Share.TheSendSync as share
use Rattle.lane_shares.proofs.shares.Shares.TheSendSync as shares
use Rattle.par_lanes.proofs.desk.LaneDesk.TheSendSync as lane
use Rattle.par_lanes.specs.contracts.desk.LaneDesk as LaneDesk
use Rattle.world_state.proofs.Passed.{post_field}
use Rattle.par_managers.specs.contracts.desk.PlanDesk as PlanDesk

site_sync : IsSync Site.the_row
site_sync = search (sendable, crosses, more.crosses, maps.crosses) depth 100 fits 100000

share_send : IsSend Share.the_row
share_send = search (share.the_send, sendable)

shares_sync : IsSync Shares.the_row
shares_sync = search (shares.the_sync, sendable)

module _ (a : NamedLft) (K Q E X : RattleType) (disk : Disk.Ghosts K.Denot) (device : Device.Ghosts Q.Denot) (entropy : Entropy.Ghosts E.Denot) (wire : Wire.Ghosts X.Denot) (disk_send : IsSend K)
    (entropy_send : IsSend E) where
  pub desk_send : IsSend (PlanDesk.the_row a K Q E X disk device entropy wire)
  desk_send =
      let desk = PlanDesk.the_type a K Q E X disk device entropy wire in
      recorded_send _ _ desk.to desk.to_one (struct_send (shape desk) (
        search (site_sync, sendable),
        (search sendable, (search sendable, (post_field K disk disk_send E entropy entropy_send, (search (shares_sync, sendable, crosses), (Vec-send _ share_send, (search sendable, tt)))))),
      ))

module _ (a : NamedLft) (X : RattleType) (wire : Wire.Ghosts X.Denot) (wire_send : IsSend X) where
  pub lane_send : IsSend (LaneDesk.the_row a X wire)
  lane_send = search (lane.the_send, wire_send, sendable, crosses)
