-- A state that stands for a world, or rests in one, has as many parts as its site says.
use Rattle.std.proofs.Common.{inl, inr, ℕ, ◌*◌, List, ap, ◌∙◌}
use Rattle.std.specs.Prelude.{Result, Ok, Err, IfOk, OnErr}
use Rattle.net_model.specs.Site.{Site}
use Rattle.net_model.specs.World.{Network, World}
use Rattle.run_ops.specs.Acting.{IsReady}
use Rattle.run_ops.specs.declared.done_block.DoneBlock.{DoneBlock}
use Rattle.run_ops.specs.declared.job.Job.{Job}
use Rattle.run_ops.specs.Together.{DoesTogether, LeftTogether}
use Rattle.world_state.specs.Rests.{Rests}
use Rattle.world_state.specs.Stands.{Stands}
use Rattle.world_state.specs.Tallied.{Tallied}
use Rattle.world_state.specs.declared.state.State.{State}
use Rattle.world_state.specs.Sized.{IsSized}
use Rattle.world_state.specs.Outside.{Outside}

module _ {K Q E X : Type 0} (outside : Outside K Q E X) where
  sized_standing : (s : State K Q E X) (net : Network) (w : World) → Stands outside s net w → IsSized s
  sized_standing s net w h = record {
    nodes = h.nodes ∙ ap (λ (x : Site). x.nodes) h.sited;
    sides = h.sides ∙ ap (λ (x : Site). 2 * x.links) h.sited;
    links = h.links ∙ ap (λ (x : Site). x.links) h.sited;
  }

  sized_resting : (s : State K Q E X) (net : Network) (w : World) → Rests outside s net w → IsSized s
  sized_resting s net w h = record {
    nodes = h.nodes ∙ ap (λ (x : Site). x.nodes) h.sited;
    sides = h.sides ∙ ap (λ (x : Site). 2 * x.links) h.sited;
    links = h.links ∙ ap (λ (x : Site). x.links) h.sited;
  }

  module _ (old new : State K Q E X) (net : Network) (w : World) (workers : ℕ)
      (jobs : List Job) (ready : IsReady (Stands outside) old net w) where
    sized_left : LeftTogether (Rests outside) (Tallied outside) old new net workers w jobs → IsSized new
    sized_left (inl before) = sized_resting new net w before.0
    sized_left (inr b) = sized_resting new net _ b.rests

    -- a state has as many parts after a block as its site says
    pub sized_together : {F : Type 0} (r : Result DoneBlock F) →
        IfOk r (λ done. (net : Network) (w : World) → IsReady (Stands outside) old net w →
        DoesTogether (Stands outside) (Tallied outside) old new net workers w jobs done) →
        OnErr r ((net : Network) (w : World) → IsReady (Stands outside) old net w →
        LeftTogether (Rests outside) (Tallied outside) old new net workers w jobs) → IsSized new
    sized_together (Ok done) does left_so = sized_standing new net _ (does net w ready).ready.stands
    sized_together (Err e) does left_so = sized_left (left_so net w ready)
