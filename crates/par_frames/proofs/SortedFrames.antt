-- The sorted records of a block's frames say what is reported and noted of them.
use Rattle.std.proofs.Common.{◌≡◌, ℕ, zero, suc, ◌<◌, ◌≤◌, Bool, true, List, [], ◌∷◌, ◌++◌, map, refl, sym, ◌∙◌, ap, ap₂, subst, arith}
use Rattle.std.specs.Prelude.{◌==◌, filter}
use Rattle.std.specs.List.{flat_map, AllByRecursion}
use Rattle.std.specs.List.Sorted.{IsNonDecreasingBy}
use Rattle.std.proofs.lemmas.Bool.{lt-ltb}
use Rattle.std.proofs.lemmas.Grind.{flat_map-append}
use Rattle.qkd_base.specs.Lane.{lane_place}
use Rattle.qkd_base.specs.declared.lane.Lane.{Lane}
use Rattle.qkd_base.specs.declared.lane.Way.TheVariants.{Up, Down}
use Rattle.net_model.specs.Site.{Site, sender, count_up, lane_of}
use Rattle.net_model.specs.World.{Network, World}
use Rattle.net_model.specs.Events.{is_lane}
use Rattle.net_model.specs.Tick.{Emission}
use Rattle.run_model.specs.Lines.{all_lanes}
use Rattle.run_model.specs.Works.{Work}
use Rattle.run_model.specs.Block.{PutDone, puts_on}
use Rattle.run_ops.specs.declared.job.Job.{Job}
use Rattle.par_lanes.specs.declared.emitted.Emitted.{Emitted}
use Rattle.law_base.proofs.Lists.{all_both, all_kept}
use Rattle.shared_objects.specs.Rising.{together}
use Rattle.shared_objects.proofs.Alls.{all_map}
use Rattle.law_parallel.specs.Puts.{reported_on, placings_on}
use Rattle.law_parallel.specs.InOrder.{turns_over}
use Rattle.par_frames.specs.Blocks.{LanesWorked, LanesLeft}
use Rattle.par_frames.specs.Leaving.{reported_as, placing_as}
use Rattle.par_frames.specs.Sorting.{HasJust}
use Rattle.par_frames.specs.Telling.{on_lane, AreSorted, AreTold}
use Rattle.par_frames.specs.Working.{kept}
use Rattle.par_frames.proofs.OnALane.{all_kept_emitted}
use Rattle.par_frames.proofs.Parts.{just_moved, just_part, part_ordered}
use Rattle.par_frames.proofs.Sorted.{in_part}
use Rattle.source_devices.specs.declared.wire.Wire as Wire

-- All lanes of the site are declared.
declared_to : (s : Site) (n : ℕ) → n ≤ s.links → AllByRecursion (λ (l : Lane). is_lane s l ≡ true) (flat_map (λ link. lane_of link Up ∷ lane_of link Down ∷ []) (count_up n))
declared_to s zero le = tt
declared_to s (suc n) le =
    let below : n < s.links = omega (arith, le) in
    let here = lt-ltb n s.links below in
    subst (AllByRecursion (λ (l : Lane). is_lane s l ≡ true)) (sym (flat_map-append (λ link. lane_of link Up ∷ lane_of link Down ∷ []) (count_up n) (n ∷ [])))
    (all_both (λ (l : Lane). is_lane s l ≡ true) (flat_map (λ link. lane_of link Up ∷ lane_of link Down ∷ []) (count_up n)) (lane_of n Up ∷ lane_of n Down ∷ [])
    (declared_to s n (omega (arith, le))) (here, (here, tt)))

same_of_all : {B : Type 0} (f g : Lane → List B) (ls : List Lane) → AllByRecursion (λ l. f l ≡ g l) ls → flat_map f ls ≡ flat_map g ls
same_of_all f g [] h = refl
same_of_all {B} f g (l ∷ ls) h = ap₂ (λ (xs ys : List B). xs ++ ys) h.0 (same_of_all f g ls h.1)

module _ {X : Type 0} (wire_says : Wire.Ghosts X) (net : Network) (workers : ℕ) (w : World) (jobs : List Job) (histories : List (List Work))
    (lanes : LanesWorked wire_says net workers w histories) (left : LanesLeft wire_says net workers w jobs histories lanes)
    (outs : List (List (Emission × Emitted))) (sorted : List Emitted) (h : AreSorted wire_says net workers w histories lanes outs sorted) where
  abbrev here : Lane → Emitted → Bool
  here l e = lane_place e.lane == lane_place l

  pub just : (l : Lane) (e : is_lane net.site l ≡ true) → HasJust (together (map kept (lanes l e).outs)) (on_lane l sorted)
  just l e =
      subst (λ (xs : List Emitted). HasJust xs (on_lane l sorted)) (sym (ap (λ (os : List (List (Emission × Emitted))). together (map kept os)) (h.lanes' l e) ∙ all_kept_emitted l outs h.told))
      (just_part (here l) (together (map kept outs)) sorted (just_moved (together (map kept outs)) sorted h.same))

  pub ordered : (l : Lane) → IsNonDecreasingBy (λ (e : Emitted). e.at) (on_lane l sorted)
  ordered l = part_ordered (here l) (λ (e : Emitted). e.at) sorted (in_part (λ (e : Emitted). lane_place e.lane) (λ (e : Emitted). e.at) sorted h.order (lane_place l))

  all_declared : AllByRecursion (λ (l : Lane). is_lane net.site l ≡ true) (all_lanes net.site)
  all_declared = declared_to net.site net.site.links (omega arith)

  abbrev u : World
  u = turns_over net w histories

  report_is : (l : Lane) → is_lane net.site l ≡ true → puts_on (reported_on u l (left.logs l)) l ≡ puts_on (map reported_as (on_lane l sorted)) l
  report_is l e = ap (λ (ps : List PutDone). puts_on ps l) (sym ((left.each l e).reported (on_lane l sorted) (just l e) (ordered l)))

  note_is : (l : Lane) → is_lane net.site l ≡ true → placings_on net u l (left.logs l) ≡ map placing_as (on_lane l sorted)
  note_is l e = sym ((left.each l e).placed (on_lane l sorted) (just l e) (ordered l))

  pub are_told : AreTold net w histories left.logs sorted
  are_told = record {
    reported = left.block.reported
        ∙ same_of_all (λ l. puts_on (reported_on u l (left.logs l)) l) (λ l. puts_on (map reported_as (on_lane l sorted)) l) (all_lanes net.site)
        (all_map (λ (l : Lane). is_lane net.site l ≡ true) _ report_is (all_lanes net.site) all_declared);
    noted = λ v.
        same_of_all (λ l. placings_on net u l (left.logs l)) (λ l. map placing_as (on_lane l sorted)) (filter (λ (l : Lane). sender net.site l == v) (all_lanes net.site))
        (all_map (λ (l : Lane). is_lane net.site l ≡ true) _ note_is (filter (λ (l : Lane). sender net.site l == v) (all_lanes net.site))
        (all_kept (λ (l : Lane). is_lane net.site l ≡ true) (λ (l : Lane). sender net.site l == v) (all_lanes net.site) all_declared));
  }
