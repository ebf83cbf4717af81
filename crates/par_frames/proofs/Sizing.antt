-- Each placing that managers are to note of a block's frames has the size of a frame.
use Rattle.std.proofs.Common.{◌≡◌, ℕ, true, false, List, [], ◌∷◌, length, refl, ◌∙◌, ap, Some}
use Rattle.std.specs.Prelude.{◌==◌, slice_get, filter}
use Rattle.std.specs.List.{list_all, flat_map, AllByRecursion}
use Rattle.std.proofs.lemmas.List.Folds.{list_all-append}
use Rattle.qkd_base.specs.declared.lane.Lane.{Lane}
use Rattle.net_model.specs.declared.placing.Placing.{Placing}
use Rattle.net_model.specs.Site.{sender}
use Rattle.net_model.specs.World.{Network, World}
use Rattle.net_model.specs.Action.{Environment}
use Rattle.net_model.specs.Events.{is_lane, is_frame_size}
use Rattle.run_model.specs.Lines.{all_lanes}
use Rattle.world_state.specs.Passed.{IsRunning}
use Rattle.law_base.proofs.Base.{and_both}
use Rattle.law_parallel.specs.Logs.{Deed}
use Rattle.law_parallel.specs.Puts.{LaneFrame, allocation_of, frames_put, frames_after, count_after, placings_from, placings_on}
use Rattle.law_parallel.specs.LaneWorks.{placings_after, world_after, IsLeft}
use Rattle.par_frames.proofs.Sizes.{frame_size}

module _ (net : Network) (w : World) (logs : Lane → List Deed) (after : IsRunning net (world_after net w logs)) (lanes : (l : Lane) → IsLeft net w logs l)
    (undeclared : (l : Lane) → is_lane net.site l ≡ false → logs l ≡ []) where
  abbrev AreSized : List Placing → Type 0
  AreSized ps = list_all (λ (p : Placing). is_frame_size p.length) ps ≡ true

  -- ---- the placings of one lane
  module _ (l : Lane) where
    of_puts : is_lane net.site l ≡ true → (count : ℕ) (ps : List (LaneFrame × Environment)) →
        AllByRecursion (λ (p : LaneFrame × Environment). slice_get (frames_after w l (logs l)) (p.0).number ≡ Some (allocation_of p.0)) ps → AreSized (placings_from net w l count ps)
    of_puts at count [] h = refl
    of_puts at count (p ∷ ps) h =
        and_both _ (list_all (λ (q : Placing). is_frame_size q.length) (placings_from net w l (count_after count p.1) ps))
        (frame_size net (world_after net w logs) after l at (p.0).number (allocation_of p.0) h.0).sized (of_puts at (count_after count p.1) ps h.1)

    on_lane : AreSized (placings_on net w l (logs l))
    on_lane = elim (is_lane net.site l) as (λ t. is_lane net.site l ≡ t → AreSized (placings_on net w l (logs l))) [
      | true ↦ λ e. of_puts e (length (w.wire l)) (frames_put w l (logs l)) (lanes l).places
      | false ↦ λ e. ap (λ (log : List Deed). list_all (λ (p : Placing). is_frame_size p.length) (placings_on net w l log)) (undeclared l e)
    ] refl

  -- ---- the placings of all lanes
  on_all : (ls : List Lane) → AreSized (flat_map (λ l. placings_on net w l (logs l)) ls)
  on_all [] = refl
  on_all (l ∷ ls) =
      list_all-append (λ (p : Placing). is_frame_size p.length) (placings_on net w l (logs l)) (flat_map (λ k. placings_on net w k (logs k)) ls)
      ∙ and_both _ (list_all (λ (p : Placing). is_frame_size p.length) (flat_map (λ k. placings_on net w k (logs k)) ls)) (on_lane l) (on_all ls)

  pub all_sized : (v : ℕ) → AreSized (placings_after net w logs v)
  all_sized v = on_all (filter (λ (l : Lane). sender net.site l == v) (all_lanes net.site))
