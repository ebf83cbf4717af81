-- All lanes of a block, taken together, are left as one block leaves them.
use Rattle.std.proofs.Common.{◌≡◌, ℕ, ◌≤◌, Bool, true, false, List, [], map, refl, sym, ◌∙◌, ap, subst}
use mathlib.Core.Bool.{Bool-set, true≢false, false≢true}
use Rattle.std.specs.List.Sorted.{IsNonDecreasingBy}
use Rattle.qkd_base.specs.declared.lane.Lane.{Lane}
use Rattle.net_model.specs.World.{Network, World}
use Rattle.net_model.specs.Events.{is_lane}
use Rattle.net_model.specs.Tick.{Emission}
use Rattle.run_model.specs.Works.{Work, flat, done_from}
use Rattle.run_ops.specs.Quiet.{IsQuiet}
use Rattle.run_ops.specs.declared.job.Job.{Job}
use Rattle.world_state.specs.Passed.{IsRunning}
use Rattle.shared_objects.specs.Rising.{together}
use Rattle.law_parallel.specs.Putting.{wanted_by}
use Rattle.law_parallel.specs.InOrder.{turns_over}
use Rattle.law_parallel.specs.Logs.{Deed, wanted_on}
use Rattle.law_parallel.specs.LaneWorks.{world_after, IsLaneBlock}
use Rattle.law_parallel.specs.Places.{numbered}
use Rattle.law_parallel.specs.Calls.{IsOfWorkers, AreWorkersWorks}
use Rattle.law_parallel.proofs.WorkersCalls.{are_lane_works}
use Rattle.par_lanes.specs.declared.emitted.Emitted.{Emitted}
use Rattle.par_frames.specs.Sorting.{HasJust}
use Rattle.par_frames.specs.LaneCalls.{deed_of, kept_in}
use Rattle.par_frames.specs.Working.{kept, HaveDone}
use Rattle.par_frames.specs.Leaving.{reported_as, placing_as, IsLeftBy}
use Rattle.par_frames.specs.Blocks.{AreTurns, LanesWorked, LanesLeft}
use Rattle.par_frames.proofs.InOrder.{in_order}
use Rattle.par_frames.proofs.OfWorkers.{of_workers}
use Rattle.par_frames.proofs.Sizing.{all_sized}
use Rattle.par_frames.proofs.Together.{done}
use Rattle.par_frames.proofs.WholeBlock.{block, left}
use Rattle.source_devices.specs.declared.wire.Wire as Wire

-- the first value if the test is true, the second if it is false
abbrev where_true : {A : Type 0} (t : Bool) → (t ≡ true → A) → A → A
where_true true f other = f refl
where_true false f other = other

chosen : {A : Type 0} (t : Bool) (f : t ≡ true → A) (other : A) (e : t ≡ true) → where_true t f other ≡ f e
chosen true f other e = ap f (Bool-set true true refl e)
chosen false f other e = absurd (false≢true e)

not_chosen : {A : Type 0} (t : Bool) (f : t ≡ true → A) (other : A) → t ≡ false → where_true t f other ≡ other
not_chosen true f other e = absurd (true≢false e)
not_chosen false f other e = refl

module _ {X : Type 0} (wire_says : Wire.Ghosts X) (net : Network) (workers : ℕ) (w : World) (jobs : List Job) (histories : List (List Work))
    (some : 1 ≤ workers) (running : IsRunning net w) (quiet : IsQuiet w) (turns : AreTurns net workers w jobs histories) (lanes : LanesWorked wire_says net workers w histories) where
  abbrev wanted : List (ℕ × Emission)
  wanted = wanted_by (done_from net w (flat histories))

  did : (l : Lane) (e : is_lane net.site l ≡ true) → HaveDone (lanes l e).old (lanes l e).outs (lanes l e).history
  did l e = done (lanes l e).old (lanes l e).outs (lanes l e).calls (lanes l e).history (lanes l e).called

  -- what each worker did on a lane, and the lane's log

  abbrev there : (l : Lane) → is_lane net.site l ≡ true → List (List (ℕ × Deed)) × List Deed
  there l e = ((did l e).done, map deed_of (did l e).log)

  abbrev all : Lane → List (List (ℕ × Deed)) × List Deed
  all l = where_true (is_lane net.site l) (there l) ([], [])

  is_there : (l : Lane) (e : is_lane net.site l ≡ true) → all l ≡ there l e
  is_there l e = chosen (is_lane net.site l) (there l) ([], []) e

  works : AreWorkersWorks net workers w jobs histories (λ l. (all l).0) (λ l. (all l).1)
  works = record {
    nodes = turns.nodes;
    merged = turns.merged;
    turns = turns.turns;
    lanes = λ l e. subst (λ (p : List (List (ℕ × Deed)) × List Deed). IsOfWorkers workers (wanted_on l wanted) p.0 p.1) (sym (is_there l e))
        (of_workers (lanes l e).old (lanes l e).outs (lanes l e).history (did l e) workers (wanted_on l wanted) (lanes l e).callers (lanes l e).own);
    undeclared = λ l e. ap (λ (p : List (List (ℕ × Deed)) × List Deed). p.1) (not_chosen (is_lane net.site l) (there l) ([], []) e);
  }

  left_of : (l : Lane) (e : is_lane net.site l ≡ true) → IsLeftBy wire_says net (turns_over net w histories) (λ k. numbered ((all k).1)) l (did l e).log (lanes l e).old (lanes l e).new
  left_of l e =
      left wire_says net workers w jobs histories (λ k. (all k).0) (λ k. (all k).1) some running quiet works l e (lanes l e).cap (lanes l e).outs (lanes l e).history (lanes l e).old
      (lanes l e).new (lanes l e).stands (lanes l e).leads (did l e) (ap (λ (p : List (List (ℕ × Deed)) × List Deed). p.1) (is_there l e))

  sorted_is : (l : Lane) (e : is_lane net.site l ≡ true) (sorted : List Emitted) → HasJust (together (map kept (lanes l e).outs)) sorted → IsNonDecreasingBy (λ (x : Emitted). x.at) sorted →
      sorted ≡ kept_in (did l e).log
  sorted_is l e sorted h up = in_order (lanes l e).old (lanes l e).outs (lanes l e).history (did l e) sorted h up

  abbrev logs : Lane → List Deed
  logs l = numbered ((all l).1)

  is_block : IsLaneBlock net workers w jobs histories logs
  is_block = block wire_says net workers w jobs histories (λ k. (all k).0) (λ k. (all k).1) some running quiet works

  running_after : IsRunning net (world_after net (turns_over net w histories) logs)
  running_after = record { network = running.network; conserved = is_block.conserved; sealing = running.sealing }

  pub lanes_left : LanesLeft wire_says net workers w jobs histories lanes
  lanes_left = record {
    logs = logs;
    are = are_lane_works net workers w jobs histories (λ k. (all k).0) (λ k. (all k).1) some works;
    block = is_block;
    each = λ l e. record {
      stands = (left_of l e).stands;
      reported = λ sorted h up. ap (map reported_as) (sorted_is l e sorted h up) ∙ (left_of l e).reported;
      placed = λ sorted h up. ap (map placing_as) (sorted_is l e sorted h up) ∙ (left_of l e).placed;
      faulty = (left_of l e).faulty;
    };
    running = running_after;
    remains = record { each = tt; unclaimed = λ l. refl; outgoing = λ l. refl };
    sized = all_sized net (turns_over net w histories) logs running_after is_block.lanes (λ l e. ap numbered (works.undeclared l e));
  }
