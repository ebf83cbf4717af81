-- The state of a network before and after its workers used the lanes.
use Rattle.std.specs.Prelude.{◌≡◌, ℕ, true, List, length, slice_get, Some}
use Rattle.qkd_base.specs.declared.lane.Lane.{Lane}
use Rattle.net_model.specs.World.{Network, World}
use Rattle.net_model.specs.Events.{is_lane}
use Rattle.run_model.specs.Works.{Work}
use Rattle.world_state.specs.Stands.{place_of}
use Rattle.world_state.specs.declared.state.State.{State}
use Rattle.par_frames.specs.Blocks.{LanesWorked}
use Rattle.source_devices.specs.declared.wire.Wire as Wire

-- Each lane was in its place before, and is afterwards as its history left it. Everything else stays as it was.
pub record HasLanes {K Q E X : Type 0} (wire_says : Wire.Ghosts X) (net : Network) (workers : ℕ) (w : World) (histories : List (List Work))
    (lanes : LanesWorked wire_says net workers w histories) (old new : State K Q E X) : Type 0 where
  pub site : new.site ≡ old.site
  pub posts : new.posts.items ≡ old.posts.items
  pub devices : new.devices.items ≡ old.devices.items
  pub up : new.up ≡ old.up
  pub sides : length new.lanes.items ≡ length old.lanes.items
  pub was : (l : Lane) (e : is_lane net.site l ≡ true) → slice_get old.lanes.items (place_of l) ≡ Some (lanes l e).old
  pub is : (l : Lane) (e : is_lane net.site l ≡ true) → slice_get new.lanes.items (place_of l) ≡ Some (lanes l e).new
