-- A manager that connections ask may be sent to another thread if its disk and its entropy may be; then threads may share the managers.
use denote.RattleType.{RattleType}
use denote.Ref.{NamedLft}
use denote.Struct.Declared.{shape}
use denote.Param.Send.{IsSend, IsSync, sendable, recorded_send, recorded_sync, struct_send, struct_sync}
use Rattle.std.proofs.Crossing.{crosses}
use Rattle.std.proofs.CrossingOver as more
use Rattle.std.proofs.MapsCrossing as maps
use Rattle.disk_model.specs.declared.disk.Disk as Disk
use Rattle.source_devices.specs.declared.entropy.Entropy as Entropy
use Rattle.declared_site.specs.contracts.site.Site as Site
use Rattle.turnstile.proofs.turnstile.Turnstile.TheSendSync as turnstile
use Rattle.world_state.proofs.Passed.{post_field}
use Rattle.net_serve.specs.contracts.managers.ServedManagers as ServedManagers
use Rattle.net_serve.specs.contracts.served_post.ServedPost as ServedPost

site_sync : IsSync Site.the_row
site_sync = search (sendable, crosses, more.crosses, maps.crosses) depth 100 fits 100000

module _ (K E : RattleType) (disk : Disk.Ghosts K.Denot) (entropy : Entropy.Ghosts E.Denot) (disk_send : IsSend K) (entropy_send : IsSend E) where
  pub post_send : IsSend (ServedPost.the_row K E disk entropy)
  post_send =
      let post = ServedPost.the_type K E disk entropy in
      recorded_send _ _ post.to post.to_one (struct_send (shape post) (search sendable, (search sendable, (post_field K disk disk_send E entropy entropy_send, (search sendable, tt)))))

  pub managers_sync : (a : NamedLft) → IsSync (ServedManagers.the_row a K E disk entropy)
  managers_sync a =
      let managers = ServedManagers.the_type a K E disk entropy in
      recorded_sync _ _ managers.to managers.to_one (struct_sync (shape managers) (search (site_sync, sendable), (search (turnstile.the_sync, post_send, sendable), tt)))
