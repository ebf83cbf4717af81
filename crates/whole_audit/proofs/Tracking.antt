-- How the tracks of lanes change with an item.
use Rattle.std.proofs.Common.{◌≡◌, ℕ, zero, suc, Bool, true, false, cond, List, [], ◌∷◌, drop, Option, Some, None, refl, sym, ap, ◌∙◌, inl, inr}
use Rattle.std.specs.Prelude.{unwrap_or, slice_get, is_some}
use Rattle.std.specs.Ordering.{nat_cmp}
use Rattle.std.specs.Cmp.Lexicographic.{slice_cmp}
use Rattle.std.specs.BTreeMap.{Updates}
use Rattle.std.proofs.lemmas.Map.Text.{is_eq-slice_cmp}
use Rattle.std.proofs.lemmas.Bool.{cases_Bool}
use Rattle.qkd_base.specs.declared.lane.Lane.{Lane}
use Rattle.qkd_base.specs.Lane.{lane_eq}
use Rattle.run_audit.specs.Table.{at}
use Rattle.run_audit.proofs.Apart.{lane_same}
use Rattle.run_types.specs.declared.entry.Entry.{Entry}
use Rattle.run_types.specs.declared.item.NumberedItem.{NumberedItem}
use Rattle.whole_audit.specs.declared.tracks.Track.{Track}
use Rattle.whole_audit.specs.declared.tracks.Tracks.{Tracks}
use Rattle.whole_audit.specs.Blocks.{is_lane}
use Rattle.whole_audit.specs.Tracks.{no_track, behind_frame, frame_lane, track_of, first_entry, begins_block}
use Rattle.whole_audit.specs.Kept.{end_key, track_at, AreTracks}
use Rattle.whole_audit.proofs.Counting.{end_keys}

-- A table with one more track has it at its lane, and the earlier ones elsewhere.
pub tracks_put : (old new : Tracks) (k : Lane) (n : Track) → Updates (slice_cmp nat_cmp) old.lanes new.lanes (end_key k) (Some n) → (l : Lane) → track_at new l ≡ cond (lane_eq k l) n (track_at old l)
tracks_put old new k n updates l =
    ap (λ (o : Option Track). unwrap_or o no_track) (updates.0 (end_key l) ∙ ap (λ (b : Bool). cond b (Some n) (at old.lanes (end_key l))) (is_eq-slice_cmp (end_key k) (end_key l) ∙ end_keys k l))
    ∙ inside (lane_eq k l) (at old.lanes (end_key l))
  where
    inside : (b : Bool) (o : Option Track) → unwrap_or (cond b (Some n) o) no_track ≡ cond b n (unwrap_or o no_track)
    inside true o = refl
    inside false o = refl

pub tracked_none : (c : Tracks) (t : NumberedItem) (before : List NumberedItem) → frame_lane t.item ≡ None → AreTracks c before → AreTracks c (t ∷ before)
tracked_none c t before none h l = h l ∙ ap (λ (o : Option Lane). cond (is_lane l o) (behind_frame t.item (track_of l before)) (track_of l before)) (sym none)

pub tracked_some : (old new : Tracks) (k : Lane) (t : NumberedItem) (before : List NumberedItem) → frame_lane t.item ≡ Some k → AreTracks old before → ((l : Lane) → track_at new l ≡ cond (lane_eq k l) (behind_frame t.item (track_of k before)) (track_at old l)) → AreTracks new (t ∷ before)
tracked_some old new k t before some h put l = for_lane ∙ sym (ap (λ (o : Option Lane). cond (is_lane l o) (behind_frame t.item (track_of l before)) (track_of l before)) some)
  where
    for_lane : track_at new l ≡ cond (lane_eq k l) (behind_frame t.item (track_of l before)) (track_of l before)
    for_lane = elim (cases_Bool (lane_eq k l)) [
      | inl same ↦
          put l
          ∙ ap (λ (b : Bool). cond b (behind_frame t.item (track_of k before)) (track_at old l)) same
          ∙ ap (λ (m : Lane). behind_frame t.item (track_of m before)) (lane_same k l same)
          ∙ sym (ap (λ (b : Bool). cond b (behind_frame t.item (track_of l before)) (track_of l before)) same)
      | inr other ↦
          put l
          ∙ ap (λ (b : Bool). cond b (behind_frame t.item (track_of k before)) (track_at old l)) other
          ∙ h l
          ∙ sym (ap (λ (b : Bool). cond b (behind_frame t.item (track_of l before)) (track_of l before)) other)
    ]

-- The entry at a place is the first of those from there on.
pub entry_there : (es : List Entry) (k : ℕ) → first_entry (Some (drop k es)) ≡ slice_get es k
entry_there [] zero = refl
entry_there [] (suc k) = refl
entry_there (e ∷ es) zero = refl
entry_there (e ∷ es) (suc k) = entry_there es k

-- Where no entry is left, no block begins.
pub no_block : (o : Option (List Entry)) → is_some o ≡ false → false ≡ begins_block (first_entry o)
no_block None h = refl
no_block (Some es) h = absurd (let u : ⊥ = cc in u)

pub some_block : (o : Option Entry) (e : Entry) → o ≡ Some e → begins_block (Some e) ≡ begins_block o
some_block o e h = sym (ap begins_block h)
