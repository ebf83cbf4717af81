-- Jobs may be done side by side if each of them is allowed in every world for which the network is ready.
use Rattle.std.proofs.Common.{ℕ, ◌≤◌, List}
use Rattle.std.specs.List.{All}
use Rattle.std.proofs.lemmas.List.Sums.{list_all-from_AllPass}
use Rattle.declared_site.specs.SiteOf.{site_of}
use Rattle.declared_site.specs.declared.site.Site.{Site as Declared}
use Rattle.net_model.specs.World.{Network, World}
use Rattle.run_ops.specs.Acting.{IsReady}
use Rattle.run_ops.specs.declared.job.Job.{Job}
use Rattle.run_ops.specs.Doing.{MayTogether}
use Rattle.run_ops.specs.Jobs.{is_job}
use Rattle.run_tasks.specs.Prepared.{IsAllowed}

pub may_together : {S : Type 0} (site : S → Declared) (Stands : S → Network → World → Type 0) (s : S) (workers : ℕ) (jobs : List Job) → (1 ≤ workers) × (workers ≤ 32) →
    ((n : Network) (w : World) → IsReady Stands s n w → All (IsAllowed (site_of (site s)) w) jobs) → ((n : Network) × (w : World) × IsReady Stands s n w) →
    MayTogether site Stands s workers jobs
may_together site Stands s workers jobs many allowed ready = record {
  some = many.0;
  few = many.1;
  fit = list_all-from_AllPass (is_job (site_of (site s))) jobs (λ k job below. (allowed ready.0 ready.1 ready.2 k job below).0);
  there = λ n w is k job below. (allowed n w is k job below).1;
  ready = ready;
}
