-- A block that one worker does alone is done as by any number of workers.
use Rattle.std.proofs.Common.{◌≡◌, ◌⊎◌, inl, inr, ℕ, ◌≤◌, List, sym, subst, arith}
use Rattle.std.specs.Prelude.{Result, Ok, Err}
use Rattle.declared_site.specs.declared.site.Site.{Site as Declared}
use Rattle.net_model.specs.Site.{Site}
use Rattle.net_model.specs.World.{Network, World}
use Rattle.net_model.specs.Action.{Action}
use Rattle.run_ops.specs.declared.done_block.DoneBlock.{DoneBlock}
use Rattle.run_ops.specs.declared.job.Job.{Job}
use Rattle.run_ops.specs.Doing.{MayTogether, DidTogether}
use Rattle.law_parallel.proofs.Alone.{does_of_more, left_of_more}

module _ {S : Type 0} (site : S → Declared) (Stands Rests : S → Network → World → Type 0) (Tallied : S → S → Site → List Action → Type 0) (armed : S → ℕ) (crew workers : ℕ)
    (is : (crew ≡ workers) ⊎ (crew ≡ 1)) (jobs : List Job) where
  -- So many workers, or one alone, may do what they may do together.
  pub may_alone : (s : S) → MayTogether site Stands s workers jobs → MayTogether site Stands s crew jobs
  may_alone s may = by is where
    by : (crew ≡ workers) ⊎ (crew ≡ 1) → MayTogether site Stands s crew jobs
    by (inl all) = subst (λ (n : ℕ). MayTogether site Stands s n jobs) (sym all) may
    by (inr one) = record { some = omega (arith, one); few = omega (arith, one); fit = may.fit; there = may.there; ready = may.ready }

  done_by : {F : Type 0} (old new : S) → 1 ≤ workers → (r : Result DoneBlock F) → DidTogether site Stands Rests Tallied armed old new 1 jobs r → DidTogether site Stands Rests Tallied armed old new workers jobs r
  done_by old new some (Ok done) did = record {
    sited = did.sited;
    armed_as = did.armed_as;
    done = λ net w ready. does_of_more net workers some w jobs Stands Rests Tallied old new done (did.done net w ready);
    left = tt;
  }
  done_by old new some (Err e) did = record {
    sited = did.sited;
    armed_as = did.armed_as;
    done = tt;
    left = λ net w ready. left_of_more net workers some w jobs Stands Rests Tallied old new (did.left net w ready);
  }

  -- And what they did is what so many do.
  pub did_alone : {F : Type 0} (old new : S) → 1 ≤ workers → (r : Result DoneBlock F) → DidTogether site Stands Rests Tallied armed old new crew jobs r →
      DidTogether site Stands Rests Tallied armed old new workers jobs r
  did_alone {F} old new some r did = by is where
    by : (crew ≡ workers) ⊎ (crew ≡ 1) → DidTogether site Stands Rests Tallied armed old new workers jobs r
    by (inl all) = subst (λ (n : ℕ). DidTogether site Stands Rests Tallied armed old new n jobs r) all did
    by (inr one) = done_by old new some r (subst (λ (n : ℕ). DidTogether site Stands Rests Tallied armed old new n jobs r) one did)
