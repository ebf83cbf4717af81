-- What is left of a state when a run ends because memory ran out.
use Rattle.std.specs.Prelude.{◌≡◌, ℕ, ◌*◌, Bool, true, length, slice_get, Some}
use Rattle.qkd_base.specs.declared.lane.Lane.{Lane}
use Rattle.net_model.specs.World.{Network, World}
use Rattle.net_model.specs.Events.{is_lane}
use Rattle.net_model.specs.Fold.{view_restarted}
use Rattle.declared_site.specs.SiteOf.{site_of}
use Rattle.world_nodes.specs.Passed.{Post}
use Rattle.law_recovery.specs.Starting.{resolved_view}
use Rattle.lane_sender.specs.Lane.{LaneForm}
use Rattle.world_nodes.specs.LaneStands.{IsRunning, WireStands}
use Rattle.world_nodes.specs.Stands.{PostStands}
use Rattle.world_state.specs.Stands.{place_of}
use Rattle.world_state.specs.declared.state.State.{State}
use Rattle.disk_model.specs.declared.disk.Disk as Disk
use Rattle.source_devices.specs.declared.entropy.Entropy as Entropy
use Rattle.world_state.specs.Outside.{Outside}

-- A node's disk and entropy keep the same in both worlds. What belongs to one life may differ: a manager without memory for its notes doesn't know
-- what became of its frames.
pub record KeepsAs (net : Network) (v : ℕ) (u w : World) : Type 0 where
  pub running : IsRunning net u
  pub drawn : w.drawn v ≡ u.drawn v
  pub journal : w.journal v ≡ u.journal v
  pub doubt : w.in_doubt v ≡ u.in_doubt v
  pub given : (committed : Bool) → view_restarted (resolved_view net w v committed) ≡ view_restarted (resolved_view net u v committed)

abbrev pub PostRests : {K E : Type 0} → Disk.Ghosts K → Entropy.Ghosts E → Network → World → ℕ → Post K E → Type 0
PostRests disk_says entropy_says net w v p = (u : World) × KeepsAs net v u w × PostStands disk_says entropy_says net u v p

-- Each node has its post, each lane its wire and each link its device, as the world has them. Nothing is said of what a lane's sender has of its
-- bytes.
pub record Rests {K Q E X : Type 0} (outside : Outside K Q E X) (s : State K Q E X) (net : Network) (w : World) : Type 0 where
  pub running : IsRunning net w
  pub sited : net.site ≡ site_of s.site
  pub nodes : length s.posts.items ≡ net.site.nodes
  pub posts : (v : ℕ) (p : Post K E) → slice_get s.posts.items v ≡ Some p → PostRests outside.disk outside.entropy net w v p
  pub sides : length s.lanes.items ≡ 2 * net.site.links
  pub wires : (l : Lane) (side : LaneForm X) → is_lane net.site l ≡ true → slice_get s.lanes.items (place_of l) ≡ Some side → WireStands outside.wire net w l side.wire
  pub links : length s.devices.items ≡ net.site.links
  pub devices : (link : ℕ) (q : Q) → slice_get s.devices.items link ≡ Some q → outside.device.told q ≡ Some (net.device link)
