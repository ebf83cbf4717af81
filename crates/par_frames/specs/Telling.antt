-- All frames of a block, sorted, as they are reported and noted.
use Rattle.std.specs.Prelude.{◌≡◌, ℕ, ◌==◌, true, List, map, filter}
use Rattle.std.specs.List.{AllByRecursion, flat_map}
use Rattle.std.specs.List.Sorted.{IsPermutation}
use Rattle.qkd_base.specs.Lane.{lane_place}
use Rattle.qkd_base.specs.declared.lane.Lane.{Lane}
use Rattle.net_model.specs.Site.{sender}
use Rattle.net_model.specs.World.{Network, World}
use Rattle.net_model.specs.Events.{is_lane}
use Rattle.net_model.specs.Tick.{Emission}
use Rattle.run_model.specs.Lines.{all_lanes}
use Rattle.run_model.specs.Works.{Work}
use Rattle.run_model.specs.Block.{puts_on}
use Rattle.run_ops.specs.Together.{puts_reported}
use Rattle.par_lanes.specs.declared.emitted.Emitted.{Emitted}
use Rattle.par_lanes.specs.Calls.{emitted_at}
use Rattle.shared_objects.specs.Rising.{together}
use Rattle.law_parallel.specs.Logs.{Deed}
use Rattle.law_parallel.specs.LaneWorks.{works_of, placings_after}
use Rattle.law_parallel.specs.InOrder.{turns_over}
use Rattle.par_frames.specs.Sorting.{IsSortedByBoth}
use Rattle.par_frames.specs.Working.{IsOfItsLine, kept}
use Rattle.par_frames.specs.Leaving.{reported_as, placing_as}
use Rattle.par_frames.specs.Blocks.{LanesWorked}
use Rattle.source_devices.specs.declared.wire.Wire as Wire

-- the records of a lane's frames
abbrev pub on_lane : Lane → List Emitted → List Emitted
on_lane l frames = filter (λ (e : Emitted). lane_place e.lane == lane_place l) frames

-- These are the frames that each worker sent on all lanes. The workers' records of them are sorted by lane and place.
pub record AreSorted {X : Type 0} (wire_says : Wire.Ghosts X) (net : Network) (workers : ℕ) (w : World) (histories : List (List Work))
    (lanes : LanesWorked wire_says net workers w histories) (outs : List (List (Emission × Emitted))) (sorted : List Emitted) : Type 0 where
  pub lanes' : (l : Lane) (e : is_lane net.site l ≡ true) → (lanes l e).outs ≡ map (emitted_at (lane_place l)) outs
  pub told : AllByRecursion (AllByRecursion IsOfItsLine) outs
  pub same : IsPermutation (together (map kept outs)) sorted
  pub order : IsSortedByBoth (λ (e : Emitted). lane_place e.lane) (λ (e : Emitted). e.at) sorted

-- Lane by lane, the sorted records say what is reported and what each node is to note.
pub record AreTold (net : Network) (w : World) (histories : List (List Work)) (logs : Lane → List Deed) (sorted : List Emitted) : Type 0 where
  pub reported : puts_reported net w (works_of net w histories logs) ≡ flat_map (λ l. puts_on (map reported_as (on_lane l sorted)) l) (all_lanes net.site)
  pub noted : (v : ℕ) → placings_after net (turns_over net w histories) logs v ≡ flat_map (λ l. map placing_as (on_lane l sorted)) (filter (λ (l : Lane). sender net.site l == v) (all_lanes net.site))
