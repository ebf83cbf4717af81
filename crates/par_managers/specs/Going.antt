-- A node's manager on its way through a block: after some of its turns.
use Rattle.std.specs.Prelude.{◌≡◌, ℕ, true, List}
use Rattle.qkd_base.specs.declared.lane.Lane.{Lane}
use Rattle.net_model.specs.World.{Network, World}
use Rattle.net_model.specs.Events.{is_lane}
use Rattle.kme_base.specs.Up.{AreUp}
use Rattle.world_state.specs.Passed.{Post, IsRunning, PostStands}
use Rattle.run_ops.specs.Acting.{IsReady}
use Rattle.world_state.specs.Frames.{IsOnWire}
use Rattle.world_state.specs.Stands.{Stands}
use Rattle.world_state.specs.declared.state.State.{State}
use Rattle.world_state.specs.Outside.{Outside}

-- The manager's post stands for its node in a world of the run. The run's state at the block's start stood for an earlier world. Between the two, no
-- link changed, and each frame stayed on its wire.
pub record IsOnItsWay {K Q E X : Type 0} (outside : Outside K Q E X) (opening : State K Q E X) (v : ℕ) (post : Post K E) (up : ℕ) : Type 0 where
  pub net : Network
  pub start : World
  pub ready : IsReady (Stands outside) opening net start
  pub now : World
  pub running : IsRunning net now
  pub stands : PostStands outside.disk outside.entropy net now v post
  pub links : AreUp up now.link_up
  pub wires : (l : Lane) (number : ℕ) (octets : List ℕ) → is_lane net.site l ≡ true → IsOnWire net start l number octets → IsOnWire net now l number octets
