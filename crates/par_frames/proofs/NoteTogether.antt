-- A block whose workers did the jobs, and which was then ended, was done by that number of workers side by side.
use Rattle.std.proofs.Common.{◌≡◌, ℕ, ◌≤◌, List, sym, subst, Result, Ok, Err, inl, inr}
use Rattle.std.specs.Prelude.{IfOk, OnErr}
use Rattle.net_model.specs.World.{Network, World}
use Rattle.run_ops.specs.Acting.{IsReady}
use Rattle.run_ops.specs.declared.job.Job.{Job}
use Rattle.run_ops.specs.declared.done_block.DoneBlock.{DoneBlock}
use Rattle.run_ops.specs.Together.{DoesTogether, EndsTogether, LeftTogether}
use Rattle.world_state.specs.Rests.{Rests}
use Rattle.world_state.specs.Stands.{Stands}
use Rattle.world_state.specs.declared.state.State.{State}
use Rattle.world_state.specs.Tallied.{Tallied}
use Rattle.world_state.proofs.Disks.{has_disks}
use Rattle.world_state.proofs.Resting.{comes_to_rest}
use Rattle.world_state.proofs.Tallies.{none_tallied}
use Rattle.par_frames.specs.declared.worked.Worked.{Worked}
use Rattle.par_frames.specs.NoteWorking.{HasWorked, CameFrom}
use Rattle.world_state.specs.Outside.{Outside}

module _ {K Q E X : Type 0} (outside : Outside K Q E X) where
  abbrev StandsHere : State K Q E X → Network → World → Type 0
  StandsHere = Stands outside

  abbrev RestsHere : State K Q E X → Network → World → Type 0
  RestsHere = Rests outside

  abbrev Came : State K Q E X → State K Q E X → Network → World → ℕ → List Job → Worked → Type 0
  Came old mid net w workers jobs worked = CameFrom outside old mid net w workers jobs worked

  abbrev Done : State K Q E X → State K Q E X → Network → World → ℕ → List Job → DoneBlock → Type 0
  Done old new net w workers jobs done = DoesTogether StandsHere (Tallied outside) old new net workers w jobs done

  abbrev Ends : State K Q E X → State K Q E X → Network → World → ℕ → List Job → Type 0
  Ends old new net w workers jobs = EndsTogether RestsHere (Tallied outside) old new net workers w jobs

  abbrev Left : State K Q E X → State K Q E X → Network → World → ℕ → List Job → Type 0
  Left old new net w workers jobs = LeftTogether RestsHere (Tallied outside) old new net workers w jobs

  -- a block in which nothing happened
  pub nothing_done : (old new : State K Q E X) (net : Network) (w : World) (workers : ℕ) (jobs : List Job) → StandsHere old net w → new ≡ old → Left old new net w workers jobs
  nothing_done old new net w workers jobs stands is =
      subst (λ (s : State K Q E X). Left old s net w workers jobs) (sym is)
      (inl (
        comes_to_rest outside net w old stands,
        none_tallied outside net.site old (has_disks outside old net w stands),
      ))

  -- a block whose workers did the jobs, and which was then ended
  module _ (old mid new : State K Q E X) (workers : ℕ) (jobs : List Job) (worked : Worked) (some : 1 ≤ workers)
      (did : (net : Network) (w : World) → IsReady StandsHere old net w →
      HasWorked outside old mid net w workers jobs worked) where
    pub came : (net : Network) (w : World) → IsReady StandsHere old net w → Came old mid net w workers jobs worked
    came net w ready = record { some = some; ready = ready; worked' = did net w ready }

    module _ {F : Type 0} where
      pub all_done : (result : Result DoneBlock F) →
          IfOk result (λ done. (opening : State K Q E X) (net : Network) (w : World) (n : ℕ) (js : List Job) → Came opening mid net w n js worked → Done opening new net w n js done) →
          IfOk result (λ done. (net : Network) (w : World) → IsReady StandsHere old net w → Done old new net w workers jobs done)
      all_done (Ok done) h = λ net w ready. h old net w workers jobs (came net w ready)
      all_done (Err e) h = tt

      pub all_ended : (result : Result DoneBlock F) →
          OnErr result ((opening : State K Q E X) (net : Network) (w : World) (n : ℕ) (js : List Job) → Came opening mid net w n js worked → Ends opening new net w n js) →
          OnErr result ((net : Network) (w : World) → IsReady StandsHere old net w → Left old new net w workers jobs)
      all_ended (Ok done) h = tt
      all_ended (Err e) h = λ net w ready. inr (h old net w workers jobs (came net w ready))
