-- The calls of workers on managers.
use Rattle.std.specs.Prelude.{◌≡◌, ℕ, ◌==◌, ◌<◌, List, [], ◌∷◌, map, length, slice_get, Option, Some, None, IfSome, if◌then◌else◌}
use Rattle.std.specs.List.{AllByRecursion}
use Rattle.block_run.specs.Jobs.{job_count}
use Rattle.declared_site.specs.SiteOf.{site_of}
use Rattle.net_model.specs.Site.{Site, count_up}
use Rattle.net_model.specs.Action.{Ok}
use Rattle.run_model.specs.Works.{Work}
use Rattle.run_ops.specs.declared.job.Job.{Job}
use Rattle.run_ops.specs.Jobs.{asked_for, asked_by, turn_for}
use Rattle.shared_objects.specs.declared.call.Call.{Call}
use Rattle.shared_objects.specs.Asked.{requests_on}
use Rattle.par_managers.specs.declared.turn.Turn.{Turn}
use Rattle.par_managers.specs.Taking.{MayCome}
use Rattle.world_state.specs.declared.state.State.{State}
use Rattle.par_managers.specs.Turning.{asked_with}
use Rattle.world_state.specs.Outside.{Outside}

-- the work of a turn
abbrev pub work_of : Turn → Work
work_of t = record { place = t.place; action = asked_with t.job.now Ok }

-- The turn is that of the job at its place.
abbrev pub IsOf : List Job → Turn → Type 0
IsOf jobs t = slice_get jobs t.place ≡ Some t.job.now

-- The call is on the manager of which the job at this place asks a turn.
pub record IsCallFor (s : Site) (place : ℕ) (job : Job) (call : Call Turn) : Type 0 where
  pub at : call.request.place ≡ place
  pub is : call.request.job.now ≡ job
  pub turn : (v : ℕ) → turn_for s v place (asked_for job) ≡ (if call.machine == v then record { place = place; action = asked_with job Ok } ∷ [] else [])

-- The entry is the call for the job, or none if the job asks for no turn.
abbrev pub IsEntry : Site → (place : ℕ) → Job → Option (Call Turn) → Type 0
IsEntry s place job None = (v : ℕ) → turn_for s v place (asked_for job) ≡ []
IsEntry s place job (Some call) = IsCallFor s place job call

-- The call may come at any time in a block.
pub record IsComing {K Q E X : Type 0} (outside : Outside K Q E X) (opening : State K Q E X) (call : Call Turn) : Type 0 where
  pub node : call.machine < length opening.posts.items
  pub may : MayCome outside opening call.machine call.request.place call.request.job.now call.request.octets

-- Each call of the shift may come at any time, and its turn is that of the job at its place.
abbrev pub AreComing : {K Q E X : Type 0} → Outside K Q E X → State K Q E X →
    List Job → List (Option (Call Turn)) → Type 0
AreComing outside opening jobs entries =
    AllByRecursion (λ entry. IfSome entry (λ call. IsComing outside opening call × IsOf jobs call.request)) entries

-- The shifts of all workers: each asks for the turns of its jobs, in order. A worker has the jobs whose place modulo `workers` is its number.
pub record AreShifts {K Q E X : Type 0} (outside : Outside K Q E X) (opening : State K Q E X) (workers : ℕ) (jobs : List Job) (shifts : List (List (Option (Call Turn)))) : Type 0 where
  pub asked : (v : ℕ) → map (λ shift. map work_of (requests_on v shift)) shifts ≡ map (λ k. asked_by (site_of opening.site) workers k v 0 jobs) (count_up workers)
  pub coming : AllByRecursion (AreComing outside opening jobs) shifts
  pub entries : (k : ℕ) (shift : List (Option (Call Turn))) → slice_get shifts k ≡ Some shift → length shift ≡ job_count k workers (length jobs)
