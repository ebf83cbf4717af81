-- The facts about a run over a new bench that its headline needs.
use Rattle.std.proofs.Common.{◌≡◌, List}
use Rattle.net_model.specs.Sealing.{IsSealing}
use Rattle.net_model.specs.World.{Network, World, first}
use Rattle.net_model.specs.Action.{Action}
use Rattle.net_model.specs.Step.{run, IsRun}
use Rattle.hop_frames.specs.Sealing.{hop_sealing}
use Rattle.run_types.specs.declared.scenario.Scenario.{Scenario}
use Rattle.run_model.specs.Bench.{DiskBatches, Seen}
use Rattle.law_run.specs.Benched.{IsBenched}
use Rattle.law_run.specs.Seen.{IsSeen}
use Rattle.net_world.specs.New.{network_on}
use Rattle.net_world.specs.Over.{IsOver}
use Rattle.net_world.specs.Reading.{ReadsDisks}
use Rattle.net_world.specs.Seen.{IsSeenOn}
use Rattle.net_world.specs.declared.bench.Bench.{Bench}
use Rattle.net_world.proofs.Networks.{is_benched}
use Rattle.net_world.proofs.Ends.{is_seen}
use Rattle.world_state.specs.Outside.{Outside}

module _ {K Q E X : Type 0} (outside : Outside K Q E X)
    (old new : Bench K Q E X) (scenario : Scenario) (actions : List Action) (w : World) (frame_law : IsSealing hop_sealing)
    (h : IsOver outside old new scenario.site actions w) where
  abbrev net : Network
  net = network_on outside.device outside.entropy old scenario.site

  pub over_benched : IsBenched scenario net
  over_benched = is_benched outside old h.fresh scenario h.declared frame_law

  pub over_seen : IsRun net first actions → w ≡ run net first actions → (reading : DiskBatches) (seen : Seen) → ReadsDisks reading →
      IsSeenOn outside old new seen → IsSeen reading net w actions seen
  over_seen may leads =
      is_seen outside old new scenario.site actions w
      h.fresh h.declared frame_law h.ran may leads
