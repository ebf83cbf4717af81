use Rattle.std.proofs.Common.{◌≡◌, ◌≤◌, true, length}
use Rattle.std.specs.Prelude.{slice_get}
use Rattle.net_model.specs.World.{Network, World}
use Rattle.net_model.specs.Events.{is_lane}
use Rattle.world_state.specs.Passed.{IsRunning, LaneStands}
use Rattle.net_world.specs.Other.{sealed_with}
use Rattle.net_world.specs.Veiled.{veiled_facts}
use Rattle.net_world.proofs.Collecting.{IsCollected}
use Rattle.net_world.proofs.Octets.{marked}
use Rattle.net_world.proofs.frames.collect.Given as goal

abbrev pub invariant-loop-number : goal.invariant-loop-number
invariant-loop-number g l = record {
  size : length l.marks ≡ length l.fn.side.bytes;
  few : length l.frames ≤ marked l.marks;
  collected : (net : Network) (w : World) → IsRunning net w → is_lane net.site l.fn.side.lane ≡ true → LaneStands g.X.Wire net w l.fn.side.lane l.fn.side →
      IsCollected (λ j. sealed_with w.durable.facts (veiled_facts w) (slice_get (w.frames l.fn.side.lane) j)) (w.wire l.fn.side.lane) l.number l.frames l.marks;
}
