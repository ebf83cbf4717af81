-- Each lane of a block that its workers did is left as its log says.
use Rattle.std.proofs.Common.{◌≡◌, ℕ, ◌≤◌, true, List, map, sym, ap, subst}
use Rattle.std.specs.List.{AllByRecursion}
use Rattle.qkd_base.specs.declared.lane.Lane.{Lane}
use Rattle.net_model.specs.World.{Network, World}
use Rattle.net_model.specs.Events.{is_lane}
use Rattle.net_model.specs.Frames.{octets_sent}
use Rattle.net_model.specs.Tick.{Emission}
use Rattle.run_model.specs.Works.{Work}
use Rattle.run_ops.specs.Quiet.{IsQuiet}
use Rattle.run_ops.specs.declared.job.Job.{Job}
use Rattle.turnstile.specs.Turns.{Leads}
use Rattle.lane_sender.specs.Lane.{LaneForm}
use Rattle.par_lanes.specs.declared.ask.LaneAsk.{LaneAsk}
use Rattle.par_lanes.specs.declared.ask.LaneAnswer.{LaneAnswer}
use Rattle.par_lanes.specs.Turns.{Turns}
use Rattle.world_state.specs.Passed.{IsRunning, LaneStands}
use Rattle.law_parallel.specs.InOrder.{turns_over}
use Rattle.law_parallel.specs.Logs.{Deed, done_for_plans}
use Rattle.law_parallel.specs.LaneWorks.{AreLaneWorks, IsLaneBlock}
use Rattle.law_parallel.specs.Places.{numbered}
use Rattle.law_parallel.specs.Calls.{placed_from, AreWorkersWorks}
use Rattle.law_parallel.proofs.LaneBlock.{conserved}
use Rattle.law_parallel.proofs.LaneOneBlock.{one_block}
use Rattle.law_parallel.proofs.Sealed.{IsOfLane, all_of_lane}
use Rattle.law_parallel.proofs.WorkersCalls.{are_lane_works}
use Rattle.par_lanes.specs.declared.emitted.Emitted.{Emitted}
use Rattle.par_frames.specs.LaneCalls.{deed_of, IsSound}
use Rattle.par_frames.specs.Working.{HaveDone}
use Rattle.par_frames.specs.Leaving.{IsLeftBy}
use Rattle.par_frames.proofs.Found.{AllOfLane}
use Rattle.par_frames.proofs.LaneLeft.{left_by}
use Rattle.par_frames.proofs.Stepping.{Leading}
use Rattle.source_devices.specs.declared.wire.Wire as Wire

module _ {X : Type 0} (wire_says : Wire.Ghosts X) (net : Network) (workers : ℕ) (w : World) (jobs : List Job) (histories : List (List Work))
    (calls : Lane → List (List (ℕ × Deed))) (logs : Lane → List Deed) (some : 1 ≤ workers) (running : IsRunning net w) (quiet : IsQuiet w)
    (works : AreWorkersWorks net workers w jobs histories calls logs) where
  -- the world after the managers' turns
  abbrev u : World
  u = turns_over net w histories

  abbrev by_number : Lane → List Deed
  by_number l = numbered (logs l)

  lane_works : AreLaneWorks net workers w jobs histories by_number
  lane_works = are_lane_works net workers w jobs histories calls logs some works

  pub block : IsLaneBlock net workers w jobs histories by_number
  block = one_block net running.network workers some w running.conserved quiet jobs histories by_number lane_works

  running_after : IsRunning net u
  running_after = record {
    network = running.network;
    conserved = conserved net running.network workers w running.conserved quiet jobs histories by_number lane_works;
    sealing = running.sealing;
  }

  module _ (l : Lane) (declared : is_lane net.site l ≡ true) (cap : ℕ) (outs : List (List (Emission × Emitted))) (history : List (LaneAsk × LaneAnswer)) (old new : LaneForm X)
      (stands : LaneStands wire_says net u l old) (leads : Leads (Turns wire_says cap) old history new) (d : HaveDone old outs history) (is : logs l ≡ map deed_of d.log) where
    on_bytes : (lane : Lane) (bytes : List ℕ) → old.lane ≡ lane → old.bytes ≡ bytes → Leading wire_says cap lane bytes old d.log new × AllByRecursion (IsSound lane bytes d.log) (placed_from 0 d.log)
    on_bytes lane bytes e f =
        subst (λ (b : List ℕ). Leading wire_says cap lane b old d.log new × AllByRecursion (IsSound lane b d.log) (placed_from 0 d.log)) f
        (subst (λ (k : Lane). Leading wire_says cap k old.bytes old d.log new × AllByRecursion (IsSound k old.bytes d.log) (placed_from 0 d.log)) e
        (subst (λ (es : List (LaneAsk × LaneAnswer)). Leads (Turns wire_says cap) old es new) (sym d.entries) leads, d.sound))

    of_plans : AllOfLane net u l d.log
    of_plans =
        subst (λ (ds : List Deed). AllByRecursion (IsOfLane net u l) (done_for_plans ds)) is
        (all_of_lane net workers w jobs histories calls logs some running.network running.conserved quiet works l declared)

    pub left : IsLeftBy wire_says net u by_number l d.log old new
    left =
        let here = on_bytes l (octets_sent net u l) stands.lane stands.bytes in
        left_by wire_says cap net u running_after l d.log by_number (ap numbered is) (block.lanes l) block.conserved of_plans old new stands here.0 here.1
