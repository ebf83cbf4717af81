-- A node takes a block from a link's device.
use Rattle.std.specs.Prelude.{◌≡◌, ℕ, List, [], ◌∷◌, length, slice_get, Some}
use Rattle.net_model.specs.declared.reply.Reply.TheVariants.{Took}
use Rattle.net_model.specs.OctetSequence.{block_at}
use Rattle.net_model.specs.World.{Network, World}
use Rattle.net_model.specs.Handle.{blocks_at}
use Rattle.net_model.specs.Action.{Environment, TakeBlock, Outcome, Replies}
use Rattle.net_model.specs.Step.{step, IsStep}
use Rattle.world_nodes.specs.Passed.{Post}
use Rattle.world_nodes.specs.Stands.{PostStands}
use Rattle.world_state.specs.Tallied.{Tallied}
use Rattle.world_state.specs.declared.state.State.{State}
use Rattle.world_state.specs.Outside.{Outside}

-- All parts are as the action leaves them, except the lanes, which stay as they were. If the node took the block, these are its octets.
pub record IsBlockTaken {K Q E X : Type 0} (outside : Outside K Q E X)
    (old new : State K Q E X) (net : Network) (w : World) (v link : ℕ) (block : List ℕ) (outcome : Outcome) : Type 0 where
  pub environment : Environment
  pub may : IsStep net w (TakeBlock v link environment)
  pub said : (step net w (TakeBlock v link environment)).1 ≡ outcome
  pub site : new.site ≡ old.site
  pub nodes : length new.posts.items ≡ length old.posts.items
  pub posts : (u : ℕ) (p : Post K E) → slice_get new.posts.items u ≡ Some p → PostStands outside.disk outside.entropy net (step net w (TakeBlock v link environment)).0 u p
  pub lanes : new.lanes.items ≡ old.lanes.items
  pub links : length new.devices.items ≡ length old.devices.items
  pub devices : (k : ℕ) (q : Q) → slice_get new.devices.items k ≡ Some q → outside.device.told q ≡ Some (net.device k)
  pub up : new.up ≡ old.up
  pub octets : (number : ℕ) → outcome ≡ Replies (Took number) → block ≡ block_at (net.device link) (blocks_at net w v link)
  pub tallied : Tallied outside old new net.site (TakeBlock v link environment ∷ [])
