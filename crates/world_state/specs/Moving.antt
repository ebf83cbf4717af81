-- How an action changes a state.
use Rattle.std.specs.Prelude.{◌≡◌, ◌⊎◌, ℕ, true, false, length, slice_get, Some}
use Rattle.qkd_base.specs.declared.lane.Lane.{Lane}
use Rattle.net_model.specs.World.{Network, World}
use Rattle.net_model.specs.Events.{is_lane}
use Rattle.net_model.specs.Action.{Action}
use Rattle.net_model.specs.Step.{step}
use Rattle.kme_base.specs.Up.{AreUp}
use Rattle.world_nodes.specs.Passed.{Post}
use Rattle.lane_sender.specs.Lane.{LaneForm}
use Rattle.world_nodes.specs.LaneStands.{LaneStands}
use Rattle.world_nodes.specs.Stands.{PostStands}
use Rattle.world_state.specs.Changed.{changes_node, changes_lane}
use Rattle.world_state.specs.Stands.{place_of}
use Rattle.world_state.specs.declared.state.State.{State}
use Rattle.world_state.specs.Outside.{Outside}

-- Each part that the action changes stands for the network's part after it. Each post and lane that the action doesn't change is as it was.
pub record Moves {K Q E X : Type 0} (outside : Outside K Q E X) (old new : State K Q E X) (net : Network) (w : World) (a : Action) : Type 0 where
  pub site : new.site ≡ old.site
  pub nodes : length new.posts.items ≡ length old.posts.items
  pub posts : (v : ℕ) (p : Post K E) → slice_get new.posts.items v ≡ Some p →
      PostStands outside.disk outside.entropy net (step net w a).0 v p ⊎ ((changes_node net.site a v ≡ false) × (slice_get old.posts.items v ≡ Some p))
  pub sides : length new.lanes.items ≡ length old.lanes.items
  pub lanes : (l : Lane) (side : LaneForm X) → is_lane net.site l ≡ true → slice_get new.lanes.items (place_of l) ≡ Some side →
      LaneStands outside.wire net (step net w a).0 l side ⊎ ((changes_lane net.site a l ≡ false) × (slice_get old.lanes.items (place_of l) ≡ Some side))
  pub links : length new.devices.items ≡ length old.devices.items
  pub devices : (link : ℕ) (q : Q) → slice_get new.devices.items link ≡ Some q → outside.device.told q ≡ Some (net.device link)
  pub up : AreUp new.up (step net w a).0.link_up
