use Rattle.std.proofs.Common.{◌≡◌, ◌*◌, ◌≤◌, take}
use Rattle.std.specs.List.{sum_by}
use Rattle.net_model.specs.World.{Network, World}
use Rattle.net_world.specs.Veiled.{frames_on, changed_on}
use Rattle.lane_sender.specs.Lane.{LaneForm}
use Rattle.net_world.specs.Lanes.{AreLanes}
use Rattle.net_world.proofs.lanes.veil_lanes.Given as goal

abbrev pub invariant-loop-side : goal.invariant-loop-side
invariant-loop-side g l = record {
  few_frames : l.frames ≤ l.side-index * 524288;
  few_bytes : l.bytes ≤ l.side-index * 524288;
  sums : (net : Network) (w : World) → AreLanes g.X.Wire net w l.fn.sides →
      (l.frames ≡ sum_by (λ (s : LaneForm g.row.X.Denot). frames_on w s.lane) (take l.side-index l.fn.sides)) ×
      (l.bytes ≡ sum_by (λ (s : LaneForm g.row.X.Denot). changed_on net w s.lane) (take l.side-index l.fn.sides));
}
