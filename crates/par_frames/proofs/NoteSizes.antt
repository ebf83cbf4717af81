-- What nodes are to note of a block's frames has the size of a frame.
use Rattle.std.proofs.Common.{◌≡◌, ℕ, true, false, List, [], ◌∷◌, length, refl, ◌∙◌, Some}
use Rattle.std.specs.Prelude.{◌==◌, filter, slice_get, if◌then◌else◌}
use Rattle.std.specs.List.{list_all, flat_map, AllByRecursion}
use Rattle.std.proofs.lemmas.List.Folds.{list_all-append}
use Rattle.qkd_base.specs.declared.lane.Lane.{Lane}
use Rattle.net_model.specs.declared.placing.Placing.{Placing}
use Rattle.net_model.specs.Events.{is_lane, is_frame_size}
use Rattle.net_model.specs.Site.{sender}
use Rattle.net_model.specs.World.{Network, World}
use Rattle.net_model.specs.Action.{Environment}
use Rattle.net_model.specs.Frames.{frame_octets}
use Rattle.run_model.specs.Lines.{all_lanes}
use Rattle.law_base.proofs.Base.{and_both, and_left, and_right}
use Rattle.law_parallel.specs.Logs.{Deed}
use Rattle.law_parallel.specs.Puts.{LaneFrame, allocation_of, count_after, frames_put, frames_after, placings_from, placings_on}
use Rattle.law_parallel.specs.LaneWorks.{IsLeft, world_after, placings_after}
use Rattle.world_state.specs.Passed.{IsRunning}
use Rattle.world_state.specs.Sending.{are_sized}
use Rattle.world_state.proofs.Sized.{sized_frame}
use Rattle.par_frames.proofs.Nodes.{all_declared}

module _ (net : Network) (w : World) (logs : Lane → List Deed) (running : IsRunning net (world_after net w logs)) (left : (l : Lane) → IsLeft net w logs l) where
  of_puts : (l : Lane) → is_lane net.site l ≡ true → (count : ℕ) (ps : List (LaneFrame × Environment)) →
      AllByRecursion (λ (p : LaneFrame × Environment). slice_get (frames_after w l (logs l)) (p.0).number ≡ Some (allocation_of p.0)) ps → are_sized (placings_from net w l count ps) ≡ true
  of_puts l at count [] h = refl
  of_puts l at count (p ∷ ps) h =
      and_both (is_frame_size (length (frame_octets net (world_after net w logs) l (Some (allocation_of p.0))))) (are_sized (placings_from net w l (count_after count p.1) ps)) (sized_frame net (world_after net w logs) running l at (p.0).number (allocation_of p.0) h.0)
      (of_puts l at (count_after count p.1) ps h.1)

  of_lane : (l : Lane) → is_lane net.site l ≡ true → are_sized (placings_on net w l (logs l)) ≡ true
  of_lane l at = of_puts l at (length (w.wire l)) (frames_put w l (logs l)) (left l).places

  abbrev notes : Lane → List Placing
  notes l = placings_on net w l (logs l)

  of_lanes : (v : ℕ) (ls : List Lane) → list_all (is_lane net.site) ls ≡ true → are_sized (flat_map notes (filter (λ (l : Lane). sender net.site l == v) ls)) ≡ true
  of_lanes v [] h = refl
  of_lanes v (l ∷ ls) h =
      let one = of_lane l (and_left (is_lane net.site l) (list_all (is_lane net.site) ls) h) in
      let rest = of_lanes v ls (and_right (is_lane net.site l) (list_all (is_lane net.site) ls) h) in
      let others : List Lane = filter (λ (k : Lane). sender net.site k == v) ls in
      elim (sender net.site l == v) as (λ t. are_sized (flat_map notes (if t then l ∷ others else others)) ≡ true) [
        | true ↦ list_all-append (λ (p : Placing). is_frame_size p.length) (notes l) (flat_map notes others) ∙ and_both (are_sized (notes l)) (are_sized (flat_map notes others)) one rest
        | false ↦ rest
      ]

  pub all_sized : (v : ℕ) → are_sized (placings_after net w logs v) ≡ true
  all_sized v = of_lanes v (all_lanes net.site) (all_declared net.site)
