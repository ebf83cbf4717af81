-- A block in which no manager was asked.
use Rattle.std.proofs.Common.{◌≡◌, ℕ, List, sym, subst, inl}
use Rattle.net_model.specs.World.{Network, World}
use Rattle.run_ops.specs.declared.job.Job.{Job}
use Rattle.run_ops.specs.Together.{LeftTogether}
use Rattle.world_state.specs.Rests.{Rests}
use Rattle.world_state.specs.Stands.{Stands}
use Rattle.world_state.specs.Tallied.{Tallied}
use Rattle.world_state.specs.declared.state.State.{State}
use Rattle.world_state.proofs.Disks.{has_disks}
use Rattle.world_state.proofs.Resting.{comes_to_rest}
use Rattle.world_state.proofs.Tallies.{none_tallied}
use Rattle.world_state.specs.Outside.{Outside}

-- the state rests in the world of the block's start
pub nobody_asked : {K Q E X : Type 0} (outside : Outside K Q E X)
    (net : Network) (w : World) (workers : ℕ) (jobs : List Job) (old new : State K Q E X) → Stands outside old net w → new ≡ old →
    LeftTogether (Rests outside) (Tallied outside) old new net workers w jobs
nobody_asked outside net w workers jobs old new stands is =
    subst (λ s. LeftTogether (Rests outside) (Tallied outside) old s net workers w jobs) (sym is)
    (inl (
      comes_to_rest outside net w old stands,
      none_tallied outside net.site old (has_disks outside old net w stands),
    ))
