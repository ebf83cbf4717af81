-- Each manager notes what became of its frames.
use Rattle.std.specs.Prelude.{◌≡◌, ℕ, ◌<◌, true, List, [], ◌∷◌}
use Rattle.net_model.specs.declared.placing.Placing.{Placing}
use Rattle.net_model.specs.World.{Network, World}
use Rattle.net_model.specs.Action.{Complete}
use Rattle.net_model.specs.Step.{step, run, IsStep}
use Rattle.net_model.specs.BlockOrder.{completions}
use Rattle.world_state.specs.Rests.{Rests}
use Rattle.world_state.specs.Stands.{Stands}
use Rattle.world_state.specs.Tallied.{Tallied}
use Rattle.world_state.specs.Sending.{are_sized}
use Rattle.world_state.specs.declared.state.State.{State}
use Rattle.world_state.specs.Outside.{Outside}

-- No frame is on its way to a wire any more, and these are the node's placings.
pub record MayNoteOne {K Q E X : Type 0} (outside : Outside K Q E X) (s : State K Q E X) (net : Network) (w : World) (v : ℕ) (placings : List Placing) : Type 0 where
  pub stands : Stands outside s net w
  pub may : IsStep net w (Complete v)
  pub node : v < net.site.nodes
  pub are : placings ≡ w.placings v
  pub sized : are_sized placings ≡ true

-- The node noted its placings.
pub record NotesOne {K Q E X : Type 0} (outside : Outside K Q E X)
    (old new : State K Q E X) (net : Network) (w : World) (v : ℕ) : Type 0 where
  pub stands : Stands outside new net (step net w (Complete v)).0
  pub tallied : Tallied outside old new net.site (Complete v ∷ [])

-- Nothing happened.
pub record StaysOne {K Q E X : Type 0} (outside : Outside K Q E X)
    (old new : State K Q E X) (net : Network) (w : World) : Type 0 where
  pub stands : Stands outside new net w
  pub tallied : Tallied outside old new net.site []

-- All nodes noted their placings.
pub record NotesAll {K Q E X : Type 0} (outside : Outside K Q E X)
    (old new : State K Q E X) (net : Network) (w : World) : Type 0 where
  pub stands : Stands outside new net (run net w (completions net))
  pub tallied : Tallied outside old new net.site (completions net)

-- The run ends while nodes note.
pub record EndsNotes {K Q E X : Type 0} (outside : Outside K Q E X)
    (old new : State K Q E X) (net : Network) (w : World) : Type 0 where
  pub rests : Rests outside new net (run net w (completions net))
  pub tallied : Tallied outside old new net.site (completions net)
