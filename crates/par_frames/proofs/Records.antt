-- The record of the frames so far, while a lane is being recorded.
use Rattle.std.proofs.Common.{◌≡◌, inl, inr, ℕ, ◌+◌, ◌<◌, ◌≤◌, Bool, true, false, ◌&&◌, List, [], ◌∷◌, ◌++◌, length, map, refl, sym, ◌∙◌, ap, subst, append-nil, append_assoc, arith, Some}
use Rattle.std.specs.Prelude.{◌==◌, ◌*◌, slice_get, filter}
use Rattle.std.specs.List.{flat_map}
use Rattle.std.proofs.lemmas.List.{map-append}
use Rattle.qkd_base.specs.Lane.{lane_eq}
use Rattle.qkd_base.specs.declared.lane.Lane.{Lane}
use Rattle.net_model.specs.declared.placing.Placing.{Placing}
use Rattle.net_model.specs.Site.{Site, sender}
use Rattle.net_model.specs.BlockOrder.{lane_number}
use Rattle.run_types.specs.declared.item.Item.{Item}
use Rattle.run_model.specs.Block.{PutDone, sorted, puts_on}
use Rattle.run_ops.specs.Together.{frame_put, put_done}
use Rattle.law_base.proofs.Base.{eq_same, not_false, eq_from, lane_same, and_both}
use Rattle.par_lanes.specs.declared.emitted.Emitted.{Emitted}
use Rattle.world_state.proofs.Others.{placed, set_length}
use Rattle.par_frames.specs.declared.log.Log.{Log}
use Rattle.par_frames.specs.declared.log.Refused.{Refused}
use Rattle.par_frames.specs.Adding.{IsAdded, IsEnded, IsEmpty}
use Rattle.par_frames.specs.FrameRecording.{put_as, took_on, refused_on}
use Rattle.par_frames.proofs.LastOne.{passes, fails}
use Rattle.par_frames.proofs.Rows.{lane_at, row, number_at, number_is, all_lanes_are}
use Rattle.par_frames.proofs.Sorting.{behind, sorted_more, kept_behind}
use Rattle.par_frames.specs.Frames.{frame_done, frame_placing, from_node}
use Rattle.par_frames.specs.Recording.{AddsFrame, AreRecorded}
use Rattle.par_frames.proofs.Lanes.{AllBelow, all_below_more, below_with, none_taken, none_refused, one_lane_more, same_up_to, up_to, same_before}

-- ---- within a lane: the log has the earlier reports and then the frames that the wire took; the refused frames are kept apart, in order

pub record Kept (l : Lane) (before : List (ℕ × List Item)) (puts : List PutDone) (log : Log) : Type 0 where
  pub frames : map frame_put log.frames.items ≡ before ++ map put_done (filter (took_on l) puts)
  pub refused' : map (put_as l false) log.refused.items ≡ sorted (filter (refused_on l) puts)

module _ (l : Lane) (before : List (ℕ × List Item)) (puts : List PutDone) (v : ℕ) (placing : Placing) (r : Refused) (old new : Log) (h : Kept l before puts old) where
  one_kept : (took : Bool) → IsAdded v placing took r old new → Kept l before (puts ++ put_as l took r ∷ []) new
  one_kept true a = record {
    frames =
        ap (map frame_put) a.frames ∙ map-append frame_put old.frames.items (r.frame ∷ []) ∙ ap (λ (xs : List (ℕ × List Item)). xs ++ frame_put r.frame ∷ []) h.frames
        ∙ append_assoc before (map put_done (filter (took_on l) puts)) (frame_put r.frame ∷ [])
        ∙ ap (λ (xs : List (ℕ × List Item)). before ++ xs)
        (sym (ap (map put_done) (passes (took_on l) puts (put_as l true r) (and_both (lane_eq l l) true (lane_same l) refl)) ∙ map-append put_done (filter (took_on l) puts) (put_as l true r ∷ [])));
    refused' = ap (map (put_as l false)) a.refused' ∙ h.refused' ∙ ap sorted (sym (fails (refused_on l) puts (put_as l true r) (and_none (lane_eq l l))));
  }
    where
      and_none : (b : Bool) → (b && false) ≡ false
      and_none true = refl
      and_none false = refl
  one_kept false a = record {
    frames =
        ap (map frame_put) (a.frames ∙ append-nil old.frames.items) ∙ h.frames
        ∙ ap (λ (xs : List PutDone). before ++ map put_done xs) (sym (fails (took_on l) puts (put_as l false r) (and_none (lane_eq l l))));
    refused' =
        ap (map (put_as l false)) a.refused' ∙ kept_behind l r old.refused.items ∙ ap (behind (put_as l false r)) h.refused' ∙ sym (sorted_more (filter (refused_on l) puts) (put_as l false r))
        ∙ ap sorted (sym (passes (refused_on l) puts (put_as l false r) (and_both (lane_eq l l) true (lane_same l) refl)));
  }
    where
      and_none : (b : Bool) → (b && false) ≡ false
      and_none true = refl
      and_none false = refl

-- ---- what each node is to note

pub record Notes (s : Site) (frames : List Emitted) (log : Log) : Type 0 where
  pub nodes : length log.placings.items ≡ s.nodes
  pub each : (v : ℕ) (xs : List Placing) → slice_get log.placings.items v ≡ Some xs → xs ≡ map frame_placing (from_node s v frames)

module _ (s : Site) (frames : List Emitted) (e : Emitted) (old new : Log) (h : Notes s frames old) (a : AddsFrame s e old new) where
  abbrev v : ℕ
  v = sender s e.lane

  abbrev is_from : ℕ → Emitted → Bool
  is_from u x = sender s x.lane == u

  mine : from_node s v (frames ++ e ∷ []) ≡ from_node s v frames ++ e ∷ []
  mine = passes (is_from v) frames e (eq_same v)

  other : (u : ℕ) → (u ≡ v → ⊥) → from_node s u (frames ++ e ∷ []) ≡ from_node s u frames
  other u apart = fails (is_from u) frames e (not_false (v == u) (λ same. apart (sym (eq_from v u same))))

  one_noted : Notes s (frames ++ e ∷ []) new
  one_noted = record {
    nodes = ap length a.added.placings ∙ set_length old.placings.items v (a.added.before ++ frame_placing e ∷ []) ∙ h.nodes;
    each = λ u xs at. elim (placed old.placings.items v (a.added.before ++ frame_placing e ∷ []) u xs (ap (λ (ps : List (List Placing)). slice_get ps u) (sym a.added.placings) ∙ at)) [
      | inl here ↦
          here.1 ∙ ap (λ (ps : List Placing). ps ++ frame_placing e ∷ []) (h.each v a.added.before a.added.there)
          ∙ sym (ap (map frame_placing) mine ∙ map-append frame_placing (from_node s v frames) (e ∷ []))
          ∙ ap (λ (n : ℕ). map frame_placing (from_node s n (frames ++ e ∷ []))) (sym here.0)
      | inr away ↦ h.each u xs away.1 ∙ ap (map frame_placing) (sym (other u away.0))
    ];
  }

-- ---- the reports and the notes

abbrev pub puts : List Emitted → List PutDone
puts frames = map frame_done frames

pub record InLane (s : Site) (frames : List Emitted) (place : ℕ) (log : Log) : Type 0 where
  pub kept : Kept (lane_at place) (map put_done (flat_map (puts_on (puts frames)) (row 0 place))) (puts frames) log
  pub notes : Notes s frames log
  pub below : AllBelow (place + 1) (puts frames)

pub nothing_yet : (s : Site) (log : Log) → IsEmpty s.nodes log → InLane s [] 0 log
nothing_yet s log e = record {
  kept = record { frames = ap (map frame_put) e.frames; refused' = ap (map (put_as (lane_at 0) false)) e.refused' };
  notes = record { nodes = e.nodes'; each = e.none };
  below = refl;
}

-- one frame is added
pub frame_added : (s : Site) (frames : List Emitted) (place : ℕ) (e : Emitted) (old new : Log) → lane_number e.lane ≡ place → InLane s frames place old → AddsFrame s e old new →
    InLane s (frames ++ e ∷ []) place new
frame_added s frames place e old new here h a =
    let l : Lane = lane_at place in
    let on : l ≡ e.lane = ap lane_at (sym here) ∙ number_is e.lane in
    let is : put_as l (frame_done e).took a.refused ≡ frame_done e = ap (λ (k : Lane). put_as k (frame_done e).took a.refused) on ∙ a.is in
    let before : List (ℕ × List Item) = map put_done (flat_map (puts_on (puts frames)) (row 0 place)) in
    let more : puts (frames ++ e ∷ []) ≡ puts frames ++ frame_done e ∷ [] = map-append frame_done frames (e ∷ []) in
    let grown : Kept l before (puts frames ++ put_as l (frame_done e).took a.refused ∷ []) new =
    one_kept l before (puts frames) (sender s e.lane) (frame_placing e) a.refused old new h.kept (frame_done e).took a.added in
    let kept : Kept l before (puts frames ++ frame_done e ∷ []) new = subst (λ (p : PutDone). Kept l before (puts frames ++ p ∷ []) new) is grown in
    let base : flat_map (puts_on (puts frames ++ frame_done e ∷ [])) (row 0 place) ≡ flat_map (puts_on (puts frames)) (row 0 place) =
    same_before (puts frames) (frame_done e) place (omega (arith, here)) in
    record {
      kept = subst (λ (ps : List PutDone). Kept l (map put_done (flat_map (puts_on ps) (row 0 place))) ps new) (sym more)
          (subst (λ (ps : List PutDone). Kept l (map put_done ps) (puts frames ++ frame_done e ∷ []) new) (sym base) kept);
      notes = one_noted s frames e old new h.notes a;
      below = subst (AllBelow (place + 1)) (sym more) (below_with place (puts frames) (frame_done e) here h.below);
    }

-- the lane ends

module _ (s : Site) (frames : List Emitted) (place : ℕ) (old new : Log) (h : InLane s frames place old) (e : IsEnded old new) where
  ended_frames : (l : Lane) (rs : List Refused) → map frame_put (map (λ (r : Refused). r.frame) rs) ≡ map put_done (map (put_as l false) rs)
  ended_frames l [] = refl
  ended_frames l (r ∷ rs) = ap (λ (xs : List (ℕ × List Item)). frame_put r.frame ∷ xs) (ended_frames l rs)

  abbrev l : Lane
  l = lane_at place

  refused_behind : map frame_put (map (λ (r : Refused). r.frame) old.refused.items) ≡ map put_done (sorted (filter (refused_on l) (puts frames)))
  refused_behind = ended_frames l old.refused.items ∙ ap (map put_done) h.kept.refused'

  abbrev earlier : List PutDone
  earlier = flat_map (puts_on (puts frames)) (row 0 place)

  ended : map frame_put new.frames.items ≡ map put_done (flat_map (puts_on (puts frames)) (row 0 (place + 1)))
  ended =
      ap (map frame_put) e.frames ∙ map-append frame_put old.frames.items (map (λ (r : Refused). r.frame) old.refused.items) ∙ (λ i. h.kept.frames i ++ refused_behind i)
      ∙ append_assoc (map put_done earlier) (map put_done (filter (took_on l) (puts frames))) (map put_done (sorted (filter (refused_on l) (puts frames))))
      ∙ ap (λ (xs : List (ℕ × List Item)). map put_done earlier ++ xs) (sym (map-append put_done (filter (took_on l) (puts frames)) (sorted (filter (refused_on l) (puts frames)))))
      ∙ sym (map-append put_done earlier (puts_on (puts frames) l)) ∙ ap (map put_done) (sym (one_lane_more (puts frames) place))

  notes : Notes s frames new
  notes = record { nodes = ap length e.placings ∙ h.notes.nodes; each = λ v xs at. h.notes.each v xs (ap (λ (ps : List (List Placing)). slice_get ps v) (sym e.placings) ∙ at) }

  -- the next frame is on a later lane
  pub goes_on : (next : ℕ) → place < next → InLane s frames next new
  goes_on next later =
      let from : place + 1 ≤ lane_number (lane_at next) = let number = number_at next in omega (arith, number, later) in
      record {
        kept = record {
          frames = ended ∙ ap (map put_done) (sym (up_to (puts frames) (place + 1) h.below next (omega (arith, later)))) ∙ sym (append-nil _)
              ∙ ap (λ (xs : List PutDone). map put_done (flat_map (puts_on (puts frames)) (row 0 next)) ++ map put_done xs) (sym (none_taken (place + 1) (puts frames) h.below (lane_at next) from));
          refused' = ap (map (put_as (lane_at next) false)) e.refused' ∙ ap sorted (sym (none_refused (place + 1) (puts frames) h.below (lane_at next) from));
        };
        notes = notes;
        below = all_below_more (place + 1) (next + 1) (omega (arith, later)) (puts frames) h.below;
      }

  -- the last lane has ended
  pub all_recorded : AllBelow (2 * s.links) (puts frames) → AreRecorded s frames new
  all_recorded all = record {
    reports = ended ∙ ap (map put_done) (same_up_to (puts frames) (place + 1) (2 * s.links) h.below all ∙ ap (flat_map (puts_on (puts frames))) (sym (all_lanes_are s)));
    nodes = notes.nodes;
    notes = notes.each;
  }
