-- The states of a network through a block.
use Rattle.std.specs.Prelude.{◌≡◌, ℕ, ◌*◌, List, length}
use Rattle.net_model.specs.World.{Network, World}
use Rattle.net_model.specs.BlockOrder.{completions}
use Rattle.run_model.specs.Works.{Work, actions_in, flat}
use Rattle.world_state.specs.Tallied.{Tallied}
use Rattle.world_state.specs.declared.state.State.{State}
use Rattle.par_frames.specs.Blocks.{LanesWorked}
use Rattle.par_frames.specs.States.{HasLanes}
use Rattle.world_state.specs.Outside.{Outside}

-- First the managers took their turns, which left the lanes as they were. Then each lane is as its history left it. Last, each manager noted what
-- became of its frames.
pub record WentOn {K Q E X : Type 0} (outside : Outside K Q E X)
    (net : Network) (workers : ℕ) (w : World) (histories : List (List Work)) (lanes : LanesWorked outside.wire net workers w histories) (first last : State K Q E X) : Type 0 where
  pub old : State K Q E X
  pub new : State K Q E X
  pub sides : length first.lanes.items ≡ 2 * net.site.links
  pub turned : Tallied outside first old net.site (actions_in (flat histories))
  pub same : old.lanes.items ≡ first.lanes.items
  pub has : HasLanes outside.wire net workers w histories lanes old new
  pub noted : Tallied outside new last net.site (completions net)
