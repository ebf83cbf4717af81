-- A property of facts and handings that replaying a batch keeps is kept by each step.
use Rattle.std.proofs.Common.{ℕ, Bool, true, false, List, Option, Some, None}
use Rattle.qkd_base.specs.Name.{Name}
use Rattle.net_model.specs.declared.fact.Fact.{Fact}
use Rattle.net_model.specs.declared.record.Record.{Record}
use Rattle.net_model.specs.Site.{Site}
use Rattle.net_model.specs.World.{Network, World, Durable}
use Rattle.net_model.specs.Action.{Action}
use Rattle.net_model.specs.Handle.{commit, stopped}
use Rattle.net_model.specs.Frames.{allocate}
use Rattle.net_model.specs.Start.{resolved, restarted, interrupted_start}
use Rattle.net_model.specs.Step.{step}
use Rattle.net_model.specs.Records.{replay}
use Rattle.law_base.proofs.Walks.{IsPreserved, step_walk}

module _ (P : List Fact → List (Name × ℕ) → Type 0)
    (kept : (s : Site) (v : ℕ) (rs : List Record) (d : Durable) → P d.facts d.handed → P (replay s v rs d).facts (replay s v rs d).handed) where
  -- The property holds of a world.
  abbrev Holds : World → Type 0
  Holds w = P w.durable.facts w.durable.handed

  keeps_resolved : (net : Network) (w : World) (v : ℕ) (committed : Bool) → Holds w → Holds (resolved net.site w v committed)
  keeps_resolved net w v true h = kept net.site v (w.in_doubt v).batch w.durable h
  keeps_resolved net w v false h = h

  keeps_interrupted : (net : Network) (w : World) (v : ℕ) (made : Option Bool) → Holds w → Holds (interrupted_start net w v made)
  keeps_interrupted net w v None h = h
  keeps_interrupted net w v (Some committed) h = h

  keeps_each : (net : Network) (w : World) → Holds w → IsPreserved net w Holds
  unfolding commit stopped allocate restarted
  keeps_each net w h =
      record {
        same = h;
        commits = λ v octets e. kept net.site v e.batch w.durable h;
        stops = λ v octets e. h;
        allocates = λ t. h;
        refuses = λ l o. h;
        puts = λ l o. h;
        notes = λ x v k. k;
        starts = λ v committed. keeps_resolved net w v committed h;
        resumes = λ v committed. keeps_resolved net (interrupted_start net w v (Some committed)) v committed (keeps_interrupted net w v (Some committed) h);
        interrupts = λ v made. keeps_interrupted net w v made h;
        crashes = λ v. h;
        links = λ link up. h;
      }

  pub keeps_step : (net : Network) (w : World) (action : Action) → P w.durable.facts w.durable.handed → P (step net w action).0.durable.facts (step net w action).0.durable.handed
  keeps_step net w action h = step_walk net w Holds (keeps_each net w h) action
