-- A state has a post for each node of its site, and two lanes and a device for each link.
use Rattle.std.specs.Prelude.{◌≡◌, ◌*◌, length}
use Rattle.declared_site.specs.SiteOf.{site_of}
use Rattle.world_state.specs.declared.state.State.{State}

pub record IsSized {K Q E X : Type 0} (s : State K Q E X) : Type 0 where
  pub nodes : length s.posts.items ≡ (site_of s.site).nodes
  pub sides : length s.lanes.items ≡ 2 * (site_of s.site).links
  pub links : length s.devices.items ≡ (site_of s.site).links
