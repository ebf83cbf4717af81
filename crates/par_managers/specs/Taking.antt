-- A manager takes its turns, one at a time.
use Rattle.std.specs.Prelude.{◌≡◌, ℕ, true, List, [], ◌∷◌, Option}
use Rattle.net_model.specs.declared.reply.Reply.{Reply}
use Rattle.net_model.specs.Site.{Site}
use Rattle.net_model.specs.World.{Network, World}
use Rattle.net_model.specs.Action.{Ok, Replies}
use Rattle.declared_site.specs.SiteOf.{site_of}
use Rattle.kme_base.specs.Up.{AreUp}
use Rattle.world_state.specs.Passed.{Post, IsRunning, Happens, PostStands}
use Rattle.run_ops.specs.Acting.{IsReady}
use Rattle.run_ops.specs.declared.job.Job.{Job}
use Rattle.run_ops.specs.Jobs.{asked_for, is_job, turn_for}
use Rattle.world_state.specs.Stands.{Stands}
use Rattle.world_state.specs.declared.state.State.{State}
use Rattle.par_managers.specs.Order.{HasOctets}
use Rattle.par_managers.specs.Turning.{asked_with}
use Rattle.disk_model.specs.declared.disk.Disk as Disk
use Rattle.source_devices.specs.declared.entropy.Entropy as Entropy
use Rattle.world_state.specs.Outside.{Outside}

-- The job at this place asks this node's manager for one turn.
abbrev pub IsTurnAt : Site → (v place : ℕ) → Job → Type 0
IsTurnAt s v place job = turn_for s v place (asked_for job) ≡ record { place = place; action = asked_with job Ok } ∷ []

-- The turn may come at any time in a block. If its job passes a frame, the frame was on its wire at the block's start.
pub record MayCome {K Q E X : Type 0} (outside : Outside K Q E X) (opening : State K Q E X) (v place : ℕ) (job : Job) (octets : Option (List ℕ)) : Type 0 where
  pub fit : is_job (site_of opening.site) job ≡ true
  pub mine : IsTurnAt (site_of opening.site) v place job
  pub has : (net : Network) (w : World) → IsReady (Stands outside) opening net w → HasOctets net w job octets

-- The node's manager may take the turn now, and these links are up.
pub record MayTurnAt {K E : Type 0} (disk_says : Disk.Ghosts K) (entropy_says : Entropy.Ghosts E) (net : Network) (w : World)
    (v place : ℕ) (post : Post K E) (job : Job) (octets : Option (List ℕ)) (up : ℕ) : Type 0 where
  pub running : IsRunning net w
  pub stands : PostStands disk_says entropy_says net w v post
  pub fit : is_job net.site job ≡ true
  pub mine : IsTurnAt net.site v place job
  pub has : HasOctets net w job octets
  pub links : AreUp up w.link_up

-- The turn is the job's action with an answer of the environment, and the manager answers with the reply.
abbrev pub HappensAt : {K E : Type 0} → Disk.Ghosts K → Entropy.Ghosts E → Network → World → (v : ℕ) → (old new : Post K E) →
    Job → Reply → Type 0
HappensAt disk_says entropy_says net w v old new job reply =
    Happens disk_says entropy_says (λ environment. asked_with job environment) net w v old new (Replies reply)
