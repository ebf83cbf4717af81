-- The sorted frames of a block, lane by lane.
use Rattle.std.proofs.Common.{◌≡◌, ℕ, Bool, true, false, List, [], ◌∷◌, ◌++◌, map, refl, sym, ◌∙◌, ap, ap₂}
use Rattle.std.specs.Prelude.{◌==◌, cond}
use Rattle.std.specs.List.{AllByRecursion, flat_map}
use Rattle.qkd_base.specs.Lane.{lane_eq, lane_place}
use Rattle.qkd_base.specs.declared.lane.Lane.{Lane}
use Rattle.net_model.specs.World.{Network, World}
use Rattle.net_model.specs.Events.{is_lane}
use Rattle.net_model.specs.Site.{Site}
use Rattle.net_model.specs.Tick.{Emission}
use Rattle.run_model.specs.Lines.{all_lanes}
use Rattle.run_model.specs.Works.{Work}
use Rattle.run_ops.specs.declared.job.Job.{Job}
use Rattle.law_base.proofs.Base.{eq_from, eq_same, lane_eq_from, lane_same, not_false}
use Rattle.law_parallel.specs.InOrder.{turns_over}
use Rattle.law_parallel.specs.Puts.{reported_on, placings_on}
use Rattle.par_lanes.specs.declared.emitted.Emitted.{Emitted}
use Rattle.par_managers.proofs.Places.{lane_there}
use Rattle.par_frames.specs.Blocks.{LanesWorked, LanesLeft}
use Rattle.par_frames.specs.Sorting.{IsSortedByBoth}
use Rattle.par_frames.specs.Telling.{AreSorted, on_lane as placed_on}
use Rattle.par_frames.proofs.Runs.{lane_by_lane}
use Rattle.par_frames.proofs.SortedFrames.{just, ordered}
use Rattle.par_frames.specs.Frames.{frame_done, frame_placing, on_lane}
use Rattle.source_devices.specs.declared.wire.Wire as Wire

-- two lanes are equal if and only if their places are

place_test : (k l : Lane) → lane_eq k l ≡ (lane_place k == lane_place l)
place_test k l = elim (lane_place k == lane_place l) as (λ t. (lane_place k == lane_place l) ≡ t → lane_eq k l ≡ t) [
  | true ↦ λ e. ap (λ (x : Lane). lane_eq x l) (lane_there k l (eq_from (lane_place k) (lane_place l) e)) ∙ lane_same l
  | false ↦ λ e. not_false (lane_eq k l) (λ f. let same = sym e ∙ ap (λ (x : Lane). lane_place x == lane_place l) (lane_eq_from k l f) ∙ eq_same (lane_place l) in cc)
] refl

same_part : (l : Lane) (es : List Emitted) → on_lane l es ≡ placed_on l es
same_part l [] = refl
same_part l (e ∷ es) = ap₂ (λ (t : Bool) (xs : List Emitted). cond t (e ∷ xs) xs) (place_test e.lane l) (same_part l es)

same_parts : (es : List Emitted) (ls : List Lane) → flat_map (λ l. on_lane l es) ls ≡ flat_map (λ l. placed_on l es) ls
same_parts es [] = refl
same_parts es (l ∷ ls) = ap₂ (λ (xs ys : List Emitted). xs ++ ys) (same_part l es) (same_parts es ls)

pub lanes_in_order : (s : Site) (es : List Emitted) → AllByRecursion (λ (e : Emitted). is_lane s e.lane ≡ true) es →
    IsSortedByBoth (λ (e : Emitted). lane_place e.lane) (λ (e : Emitted). e.at) es → es ≡ flat_map (λ l. on_lane l es) (all_lanes s)
lanes_in_order s es there order = sym (same_parts es (all_lanes s) ∙ lane_by_lane s es there order)

module _ {X : Type 0} (wire_says : Wire.Ghosts X) (net : Network) (workers : ℕ) (w : World) (jobs : List Job) (histories : List (List Work))
    (lanes : LanesWorked wire_says net workers w histories) (left : LanesLeft wire_says net workers w jobs histories lanes)
    (outs : List (List (Emission × Emitted))) (es : List Emitted) (h : AreSorted wire_says net workers w histories lanes outs es) (l : Lane) (e : is_lane net.site l ≡ true) where
  pub reported : map frame_done (on_lane l es) ≡ reported_on (turns_over net w histories) l (left.logs l)
  reported =
      ap (map frame_done) (same_part l es)
      ∙ (left.each l e).reported (placed_on l es) (just wire_says net workers w jobs histories lanes left outs es h l e) (ordered wire_says net workers w jobs histories lanes left outs es h l)

  pub noted : map frame_placing (on_lane l es) ≡ placings_on net (turns_over net w histories) l (left.logs l)
  noted =
      ap (map frame_placing) (same_part l es)
      ∙ (left.each l e).placed (placed_on l es) (just wire_says net workers w jobs histories lanes left outs es h l e) (ordered wire_says net workers w jobs histories lanes left outs es h l)
