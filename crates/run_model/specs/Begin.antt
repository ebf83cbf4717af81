-- The worlds in which a course may begin.
use Rattle.std.specs.Prelude.{◌≡◌, ℕ, ◌<◌, true, false, List, [], length}
use Rattle.qkd_base.specs.declared.lane.Lane.{Lane}
use Rattle.net_model.specs.declared.record.Record.{Record}
use Rattle.net_model.specs.World.{Network, World, no_doubt, no_volatile}
use Rattle.net_model.specs.Needed.{view_of}
use Rattle.net_model.specs.Fold.{recovered_view}
use Rattle.net_model.specs.Invariant.{Conserved}

-- All managers are down, no batch is in doubt, and no start was interrupted. No frame is known or on its way. Each lane
-- goes on at its leased end. All links are up.
pub record IsAtRest (w : World) : Type 0 where
  pub down : (v : ℕ) → w.up v ≡ false
  pub certain : (v : ℕ) → w.in_doubt v ≡ no_doubt
  pub unbroken : (v : ℕ) → w.interrupted v ≡ false
  pub empty : (v : ℕ) → w.volatile v ≡ no_volatile
  pub noted : (v : ℕ) → w.placings v ≡ []
  pub linked : (link : ℕ) → w.link_up link ≡ true
  pub claimed : (l : Lane) → w.unclaimed l ≡ []
  pub put : (l : Lane) → w.outgoing l ≡ []
  pub framed : (l : Lane) → w.frames l ≡ []
  pub wired : (l : Lane) → w.wire l ≡ []
  pub owned : (l : Lane) → length (w.durable.own l) ≡ w.durable.lease l
  pub recovered : (l : Lane) → w.recovered l ≡ w.durable.lease l

-- The world before any start is one, and what an earlier course left on its disks. It is at rest, and all that is conserved
-- holds in it. Each node sees what some batches of a journal give back.
pub record MayBegin (net : Network) (w : World) : Type 0 where
  pub rest : IsAtRest w
  pub conserved : Conserved net w
  pub given : (v : ℕ) → v < net.site.nodes → (batches : List (List Record)) × (view_of net w v ≡ recovered_view net.site v batches)
