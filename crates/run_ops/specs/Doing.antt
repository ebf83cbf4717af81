-- The contract of a function that does jobs on a network side by side.
use Rattle.std.specs.Prelude.{◌≡◌, ℕ, ◌≤◌, true, List, Result, IfOk, OnErr}
use Rattle.std.specs.List.{list_all, All}
use Rattle.declared_site.specs.SiteOf.{site_of}
use Rattle.declared_site.specs.declared.site.Site.{Site as Declared}
use Rattle.net_model.specs.Site.{Site}
use Rattle.net_model.specs.World.{Network, World}
use Rattle.net_model.specs.Action.{Action}
use Rattle.run_ops.specs.Acting.{IsReady}
use Rattle.run_ops.specs.declared.job.Job.{Job}
use Rattle.run_ops.specs.declared.done_block.DoneBlock.{DoneBlock}
use Rattle.run_ops.specs.Jobs.{is_job, IsThere}
use Rattle.run_ops.specs.Together.{DoesTogether, LeftTogether}

-- This number of workers may do these jobs on the network, which is ready for them.
pub record MayTogether {S : Type 0} (site : S → Declared) (Stands : S → Network → World → Type 0) (s : S) (workers : ℕ) (jobs : List Job) : Type 0 where
  pub some : 1 ≤ workers
  pub few : workers ≤ 32
  pub fit : list_all (is_job (site_of (site s))) jobs ≡ true
  pub there : (net : Network) (w : World) → IsReady Stands s net w → All (IsThere w) jobs
  pub ready : (net : Network) × (w : World) × IsReady Stands s net w

-- The jobs were done, or memory ran out and the run ends.
pub record DidTogether {S F : Type 0} (site : S → Declared) (Stands Rests : S → Network → World → Type 0) (Tallied : S → S → Site → List Action → Type 0) (armed : S → ℕ)
    (old new : S) (workers : ℕ) (jobs : List Job) (result : Result DoneBlock F) : Type 0 where
  pub sited : site new ≡ site old
  pub armed_as : armed new ≡ armed old
  pub done : IfOk result (λ done. (net : Network) (w : World) → IsReady Stands old net w → DoesTogether Stands Tallied old new net workers w jobs done)
  pub left : OnErr result ((net : Network) (w : World) → IsReady Stands old net w → LeftTogether Rests Tallied old new net workers w jobs)
