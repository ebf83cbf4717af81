-- How the state of a run stands for a network.
use Rattle.std.specs.Prelude.{◌≡◌, ℕ, ◌+◌, ◌*◌, true, length, slice_get, Some}
use Rattle.qkd_base.specs.declared.lane.Way.{Way}
use Rattle.qkd_base.specs.declared.lane.Way.TheVariants.{Up, Down}
use Rattle.qkd_base.specs.declared.lane.Lane.{Lane}
use Rattle.net_model.specs.World.{Network, World}
use Rattle.net_model.specs.Events.{is_lane}
use Rattle.declared_site.specs.SiteOf.{site_of}
use Rattle.kme_base.specs.Up.{AreUp}
use Rattle.world_nodes.specs.Passed.{Post}
use Rattle.lane_sender.specs.Lane.{LaneForm}
use Rattle.world_nodes.specs.LaneStands.{IsRunning, LaneStands}
use Rattle.world_nodes.specs.Stands.{PostStands}
use Rattle.world_state.specs.declared.state.State.{State}
use Rattle.world_state.specs.Outside.{Outside}

-- the place of a way: the lane up before the lane down
abbrev pub of_way : Way → ℕ
of_way Up = 0
of_way Down = 1

abbrev pub place_of : Lane → ℕ
place_of l = 2 * l.link + of_way l.way

-- Each node has its post, and each lane its sender's side and its wire. Each link has its device, which tells its octets, and is up or down.
pub record Stands {K Q E X : Type 0} (outside : Outside K Q E X) (s : State K Q E X) (net : Network) (w : World) : Type 0 where
  pub running : IsRunning net w
  pub sited : net.site ≡ site_of s.site
  pub nodes : length s.posts.items ≡ net.site.nodes
  pub posts : (v : ℕ) (p : Post K E) → slice_get s.posts.items v ≡ Some p → PostStands outside.disk outside.entropy net w v p
  pub sides : length s.lanes.items ≡ 2 * net.site.links
  pub lanes : (l : Lane) (side : LaneForm X) → is_lane net.site l ≡ true → slice_get s.lanes.items (place_of l) ≡ Some side → LaneStands outside.wire net w l side
  pub links : length s.devices.items ≡ net.site.links
  pub devices : (link : ℕ) (q : Q) → slice_get s.devices.items link ≡ Some q → outside.device.told q ≡ Some (net.device link)
  pub up : AreUp s.up w.link_up
