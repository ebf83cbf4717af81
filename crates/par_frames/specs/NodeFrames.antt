-- What each node is to note of a block's frames.
use Rattle.std.specs.Prelude.{◌≡◌, ℕ, true, List, []}
use Rattle.net_model.specs.declared.placing.Placing.{Placing}
use Rattle.net_model.specs.World.{Network, World}
use Rattle.law_parallel.specs.Remaining.{Remains}
use Rattle.world_state.specs.Stands.{Stands}
use Rattle.world_state.specs.Sending.{are_sized}
use Rattle.world_state.specs.declared.state.State.{State}
use Rattle.par_frames.specs.FrameRecording.{AreNoted}
use Rattle.world_state.specs.Outside.{Outside}

-- No frame is on its way to a wire any more, and these are the placings of each node.
pub record MayNoteAll {K Q E X : Type 0} (outside : Outside K Q E X) (s : State K Q E X) (net : Network) (w : World)
    (placings : List (List Placing)) : Type 0 where
  pub stands : Stands outside s net w
  pub remains : Remains net w []
  pub noted : AreNoted net.site.nodes w placings
  pub sized : (v : ℕ) → are_sized (w.placings v) ≡ true
