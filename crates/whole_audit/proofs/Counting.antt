-- How the counts of ends change with an item.
use Rattle.std.proofs.Common.{◌≡◌, Bool, true, false, cond, eqb, List, ◌∷◌, Option, Some, None, refl, sym, ap, ◌∙◌, inl, inr}
use Rattle.std.specs.Prelude.{unwrap_or}
use Rattle.std.specs.Ordering.{nat_cmp}
use Rattle.std.specs.Cmp.Lexicographic.{slice_cmp}
use Rattle.std.specs.BTreeMap.{Updates}
use Rattle.std.specs.Str.{bytes_eq}
use Rattle.std.proofs.lemmas.Map.Text.{is_eq-slice_cmp}
use Rattle.qkd_base.specs.Lane.{lane_place}
use Rattle.run_audit.specs.Table.{at}
use Rattle.run_audit.proofs.Keys.{and_true, lane_places}
use Rattle.std.proofs.lemmas.Bool.{cases_Bool}
use Rattle.qkd_base.specs.declared.lane.Lane.{Lane}
use Rattle.qkd_base.specs.Lane.{lane_eq}
use Rattle.run_types.specs.declared.item.NumberedItem.{NumberedItem}
use Rattle.whole_audit.specs.declared.blocks.Count.{Count}
use Rattle.whole_audit.specs.declared.blocks.Counts.{Counts}
use Rattle.whole_audit.specs.Blocks.{behind_item, block_lane, is_lane, count_of}
use Rattle.whole_audit.specs.Kept.{no_count, end_key, count_at, AreCounted}
use Rattle.run_audit.proofs.Apart.{lane_same}

pub end_keys : (k l : Lane) → bytes_eq (end_key k) (end_key l) ≡ lane_eq k l
end_keys k l = and_true (eqb (lane_place k) (lane_place l)) ∙ lane_places k l

-- A table with one more count has it at its end, and the earlier ones elsewhere.
pub counts_put : (old new : Counts) (k : Lane) (n : Count) → Updates (slice_cmp nat_cmp) old.ends new.ends (end_key k) (Some n) → (l : Lane) → count_at new l ≡ cond (lane_eq k l) n (count_at old l)
counts_put old new k n updates l =
    ap (λ (o : Option Count). unwrap_or o no_count) (updates.0 (end_key l) ∙ ap (λ (b : Bool). cond b (Some n) (at old.ends (end_key l))) (is_eq-slice_cmp (end_key k) (end_key l) ∙ end_keys k l))
    ∙ inside (lane_eq k l) (at old.ends (end_key l))
  where
    inside : (b : Bool) (o : Option Count) → unwrap_or (cond b (Some n) o) no_count ≡ cond b n (unwrap_or o no_count)
    inside true o = refl
    inside false o = refl

pub counted_none : (c : Counts) (t : NumberedItem) (before : List NumberedItem) → block_lane t.item ≡ None → AreCounted c before → AreCounted c (t ∷ before)
counted_none c t before none h l = h l ∙ ap (λ (o : Option Lane). cond (is_lane l o) (behind_item t.item (count_of l before)) (count_of l before)) (sym none)

pub counted_some : (old new : Counts) (k : Lane) (t : NumberedItem) (before : List NumberedItem) → block_lane t.item ≡ Some k → AreCounted old before → ((l : Lane) → count_at new l ≡ cond (lane_eq k l) (behind_item t.item (count_of k before)) (count_at old l)) → AreCounted new (t ∷ before)
counted_some old new k t before some h put l = for_lane ∙ sym (ap (λ (o : Option Lane). cond (is_lane l o) (behind_item t.item (count_of l before)) (count_of l before)) some)
  where
    for_lane : count_at new l ≡ cond (lane_eq k l) (behind_item t.item (count_of l before)) (count_of l before)
    for_lane = elim (cases_Bool (lane_eq k l)) [
      | inl same ↦
          put l
          ∙ ap (λ (b : Bool). cond b (behind_item t.item (count_of k before)) (count_at old l)) same
          ∙ ap (λ (m : Lane). behind_item t.item (count_of m before)) (lane_same k l same)
          ∙ sym (ap (λ (b : Bool). cond b (behind_item t.item (count_of l before)) (count_of l before)) same)
      | inr other ↦
          put l
          ∙ ap (λ (b : Bool). cond b (behind_item t.item (count_of k before)) (count_at old l)) other
          ∙ h l
          ∙ sym (ap (λ (b : Bool). cond b (behind_item t.item (count_of l before)) (count_of l before)) other)
    ]
