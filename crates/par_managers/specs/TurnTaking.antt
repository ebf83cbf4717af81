-- Managers take their turns.
use Rattle.std.specs.Prelude.{◌≡◌, ℕ, true, List, [], ◌∷◌, Option}
use Rattle.net_model.specs.declared.reply.Reply.{Reply}
use Rattle.net_model.specs.World.{Network, World}
use Rattle.net_model.specs.Action.{Environment, Replies}
use Rattle.net_model.specs.Step.{step, IsStep}
use Rattle.run_ops.specs.declared.job.Job.{Job}
use Rattle.run_ops.specs.Jobs.{is_job}
use Rattle.world_state.specs.Stands.{Stands}
use Rattle.world_state.specs.Tallied.{Tallied}
use Rattle.world_state.specs.declared.state.State.{State}
use Rattle.par_managers.specs.Order.{HasOctets}
use Rattle.par_managers.specs.Turning.{asked_with}
use Rattle.world_state.specs.Outside.{Outside}

-- A manager may take the job's turn, with these octets of the frame that comes.
pub record MayTurn {K Q E X : Type 0} (outside : Outside K Q E X) (s : State K Q E X) (net : Network) (w : World)
    (job : Job) (octets : Option (List ℕ)) : Type 0 where
  pub stands : Stands outside s net w
  pub fit : is_job net.site job ≡ true
  pub has : HasOctets net w job octets

-- The turn is the job's action with an answer of the environment, and the manager answers with the reply.
pub record TookTurn {K Q E X : Type 0} (outside : Outside K Q E X)
    (old new : State K Q E X) (net : Network) (w : World) (job : Job) (reply : Reply) : Type 0 where
  pub environment : Environment
  pub may : IsStep net w (asked_with job environment)
  pub said : (step net w (asked_with job environment)).1 ≡ Replies reply
  pub stands : Stands outside new net (step net w (asked_with job environment)).0
  pub tallied : Tallied outside old new net.site (asked_with job environment ∷ [])
