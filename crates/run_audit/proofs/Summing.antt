-- How the sums of a lane change with one more item.
use Rattle.std.proofs.Common.{◌≡◌, ℕ, ◌+◌, ◌*◌, ◌-◌, ◌^◌, ◌<◌, ◌≤◌, Bool, true, false, not, ◌&&◌, ◌||◌, cond, eqb, suc, ◌⊎◌, inl, inr, List, [], ◌∷◌, length, Option, Some, None, refl, sym, ap, ◌∙◌, subst, arith}
use Rattle.std.specs.Prelude.{unwrap_or, nat_lt}
use Rattle.std.specs.List.{list_any, list_all, cons_option}
use Rattle.std.specs.Str.{bytes_eq}
use Rattle.std.specs.BTreeMap.{BTreeMap}
use Rattle.std.proofs.lemmas.Bool.{cases_Bool}
use Rattle.std.proofs.lemmas.Bool.Decides.{nat_tests}
use Rattle.qkd_base.specs.declared.lane.Lane.{Lane}
use Rattle.qkd_base.specs.Lane.{lane_eq, lane_place}
use Rattle.run_types.specs.declared.item.Item.{Item}
use Rattle.run_types.specs.declared.item.Item.TheVariants as items
use Rattle.run_types.specs.declared.item.NumberedItem.{NumberedItem}
use Rattle.run_audit.specs.declared.frames.Frame.{Frame}
use Rattle.run_audit.specs.declared.sums.LaneSum.{LaneSum}
use Rattle.run_audit.specs.declared.sums.Sums.{Sums}
use Rattle.run_audit.specs.Table.{at}
use Rattle.run_audit.specs.Frames.{how_many, frame_of, frames, sent_on, is_placed, places, used_on, was_sent}
use Rattle.run_audit.specs.Ledgers.{lane_from, is_stop, is_block_for, is_doubt_for, is_unsent_on, blocks_for, is_doubted, has_unsent, sum_of}
use Rattle.run_audit.specs.Kept.{place_key, AreApart, AreNumbered, no_sum, lane_of, used_by, with_item, sum_at, AreSummed, IsNew}
use Rattle.run_audit.proofs.Keys.{place_keys}
use Rattle.run_audit.proofs.Apart.{lane_same}
use Rattle.run_audit.proofs.Placing.{Puts}

-- ---- bounds

pub how_many-le : {X : Type 0} (test : X → Bool) (xs : List X) → how_many test xs ≤ length xs
how_many-le test [] = omega arith
how_many-le test (x ∷ xs) = elim (cases_Bool (test x)) [
  | inl holds ↦ rw holds (omega (arith, how_many-le test xs))
  | inr other ↦ rw other (omega (arith, how_many-le test xs))
]

pub places-le : (fs : List Frame) → places fs ≤ length fs
places-le [] = omega arith
places-le (f ∷ fs) = elim (cases_Bool (is_placed f.lane f.offset fs)) [
  | inl holds ↦ rw holds (omega (arith, places-le fs))
  | inr other ↦ rw other (omega (arith, places-le fs))
]

-- There are at most as many frames as items.
pub frames-le : (told : List NumberedItem) → length (frames told) ≤ length told
frames-le [] = omega arith
frames-le (t ∷ told) = one (frame_of t.item) (frames told) (length told) (frames-le told)
  where
    one : (o : Option Frame) (fs : List Frame) (n : ℕ) → length fs ≤ n → length (cons_option o fs) ≤ suc n
    one None fs n h = omega arith
    one (Some f) fs n h = omega arith

-- Each frame uses fewer than 2^17 bytes.
pub used-lt : (l : Lane) (fs : List Frame) → AreApart fs → used_on l fs ≤ 131072 * length fs
used-lt l [] h = omega arith
used-lt l (f ∷ fs) h = elim (cases_Bool (lane_eq f.lane l && not (is_placed f.lane f.offset fs))) [
  | inl holds ↦ rw holds (omega (arith, h.1, used-lt l fs h.3))
  | inr other ↦ rw other (omega (arith, used-lt l fs h.3))
]

-- ---- one more item

-- The sum of lane l after one more item. `is_new` says whether the item's frame has a new place.
abbrev summed : Option Lane → Lane → Item → (is_new : Bool) → LaneSum → LaneSum
summed None l item is_new s = s
summed (Some k) l item is_new s = cond (lane_eq k l) (with_item item is_new s) s

pub sums_more : (l : Lane) (t : NumberedItem) (before : List NumberedItem) (is_new : Bool) → IsNew is_new (frame_of t.item) (frames before) → sum_of l (t ∷ before) ≡ summed (lane_of t.item) l t.item is_new (sum_of l before)
sums_more l t before is_new new = by_item t.item new
  where
    -- the sum of the items with this one, part by part
    parts : Item → LaneSum
    parts item = record {
      sent = sent_on l (cons_option (frame_of item) (frames before));
      used = used_on l (cons_option (frame_of item) (frames before));
      blocks = cond (is_block_for l item) (suc (blocks_for l before)) (blocks_for l before);
      is_doubted = is_doubt_for l item || is_doubted l before;
      has_unsent = is_unsent_on l item || has_unsent l before;
    }

    took : (b : Bool) (s : LaneSum) → (record { sent = s.sent; used = s.used; blocks = cond b (suc s.blocks) s.blocks; is_doubted = s.is_doubted; has_unsent = s.has_unsent }) ≡ cond b (record s { blocks = suc s.blocks }) s
    took true s = refl
    took false s = refl

    doubted : (b x : Bool) (s : LaneSum) → (record { sent = s.sent; used = s.used; blocks = s.blocks; is_doubted = (b && x) || s.is_doubted; has_unsent = s.has_unsent }) ≡ cond b (record s { is_doubted = x || s.is_doubted }) s
    doubted true x s = refl
    doubted false x s = refl

    sent : (length : ℕ) (b placed : Bool) (s : LaneSum) → is_new ≡ not placed →
        (record { sent = cond b (suc s.sent) s.sent; used = cond (b && not placed) (length + 8 + s.used) s.used; blocks = s.blocks; is_doubted = s.is_doubted; has_unsent = s.has_unsent })
        ≡ cond b (record s { sent = suc s.sent; used = used_by is_new length s.used }) s
    sent length true placed s e = rw e refl
    sent length false placed s e = refl

    unsent : (b : Bool) (s : LaneSum) → (record { sent = s.sent; used = s.used; blocks = s.blocks; is_doubted = s.is_doubted; has_unsent = b || s.has_unsent }) ≡ cond b (record s { has_unsent = true }) s
    unsent true s = refl
    unsent false s = refl

    by_item : (item : Item) → IsNew is_new (frame_of item) (frames before) → parts item ≡ summed (lane_of item) l item is_new (sum_of l before)
    by_item (items.Took link end number) n = took (lane_eq (lane_from link end) l) (sum_of l before)
    by_item (items.TookNone link end refusal) n = doubted (lane_eq (lane_from link end) l) (is_stop refusal) (sum_of l before)
    by_item (items.Sent k number offset length) n = sent length (lane_eq k l) (is_placed k offset (frames before)) (sum_of l before) n
    by_item (items.Unsent k offset cause) n = unsent (lane_eq k l) (sum_of l before)
    by_item _ n = refl

-- If the sums were right before an item, they are right behind it.
pub summed_none : (old : Sums) (t : NumberedItem) (before : List NumberedItem) (is_new : Bool) → IsNew is_new (frame_of t.item) (frames before) → lane_of t.item ≡ None → AreSummed old before → AreSummed old (t ∷ before)
summed_none old t before is_new new none has l =
    has l ∙ sym (sums_more l t before is_new new ∙ ap (λ (o : Option Lane). summed o l t.item is_new (sum_of l before)) none)

pub summed_some : (old new : Sums) (k : Lane) (s : LaneSum) (t : NumberedItem) (before : List NumberedItem) (is_new : Bool) → IsNew is_new (frame_of t.item) (frames before) → lane_of t.item ≡ Some k
    → ((l : Lane) → sum_at new l ≡ cond (lane_eq k l) s (sum_at old l)) → AreSummed old before → s ≡ with_item t.item is_new (sum_at old k) → AreSummed new (t ∷ before)
summed_some old new k s t before is_new fresh some put has is l = elim (cases_Bool (lane_eq k l)) [
  | inl holds ↦
      let same : k ≡ l = lane_same k l holds in
      put l ∙ rw holds (is ∙ ap (with_item t.item is_new) (ap (sum_at old) same ∙ has l)
      ∙ sym (sums_more l t before is_new fresh ∙ ap (λ (o : Option Lane). summed o l t.item is_new (sum_of l before)) some ∙ rw holds refl))
  | inr other ↦
      put l ∙ rw other (has l ∙ sym (sums_more l t before is_new fresh ∙ ap (λ (o : Option Lane). summed o l t.item is_new (sum_of l before)) some ∙ rw other refl))
]

-- ---- numbers of frames

-- The numbers of a lane's frames are those below the lane's count of frames.
pub sent_below : (l : Lane) (n : ℕ) (fs : List Frame) → AreNumbered fs → nat_lt n (sent_on l fs) ≡ was_sent l n fs
sent_below l n [] h = grind (arith, nat_tests)
sent_below l n (f ∷ fs) h = elim (cases_Bool (lane_eq f.lane l)) [
  | inl on ↦
      let count : f.number ≡ sent_on l fs = h.0 ∙ ap (λ (k : Lane). sent_on k fs) (lane_same f.lane l on) in
      rw on (one_more n f.number (sent_on l fs) (was_sent l n fs) count (sent_below l n fs h.1))
  | inr off ↦ rw off (sent_below l n fs h.1)
]
  where
    one_more : (n number count : ℕ) (b : Bool) → number ≡ count → nat_lt n count ≡ b → nat_lt n (suc count) ≡ (eqb number n || b)
    one_more n number count b e h = rw (e, sym h) (below n count)
      where
        below : (n count : ℕ) → nat_lt n (suc count) ≡ (eqb count n || nat_lt n count)
        below n count = grind (arith, nat_tests)
