-- How the table of frames changes with an item.
use Rattle.std.proofs.Common.{◌≡◌, ℕ, Bool, true, ◌&&◌, cond, eqb, List, ◌∷◌, Option, Some, None, sym, ap, ◌∙◌}
use Rattle.std.specs.Ordering.{nat_cmp}
use Rattle.std.specs.Cmp.Lexicographic.{slice_cmp}
use Rattle.std.specs.BTreeMap.{Updates}
use Rattle.std.specs.Str.{bytes_eq}
use Rattle.std.proofs.lemmas.Map.Text.{is_eq-slice_cmp}
use Rattle.qkd_base.specs.declared.lane.Lane.{Lane}
use Rattle.qkd_base.specs.Lane.{lane_eq}
use Rattle.run_audit.proofs.Keys.{and_true, lane_places}
use Rattle.run_types.specs.declared.item.NumberedItem.{NumberedItem}
use Rattle.whole_audit.specs.declared.frames.Put.{Put}
use Rattle.whole_audit.specs.declared.frames.Frames.{Frames}
use Rattle.whole_audit.specs.Frames.{put_of, is_frame, frame_at}
use Rattle.whole_audit.specs.Kept.{frame_key, frame_kept, AreFrames}

frame_keys : (k l : Lane) (x y : ℕ) → bytes_eq (frame_key k x) (frame_key l y) ≡ (lane_eq k l && eqb x y)
frame_keys k l x y = ap (λ (b : Bool). b && (eqb x y && true)) (lane_places k l) ∙ ap (λ (b : Bool). lane_eq k l && b) (and_true (eqb x y))

pub none_put : (f : Frames) (t : NumberedItem) (before : List NumberedItem) → put_of t.item ≡ None → AreFrames f before → AreFrames f (t ∷ before)
none_put f t before none h l n = h l n ∙ sym (ap (λ (o : Option Put). cond (is_frame l n o) o (frame_at l n before)) none)

pub some_put : (old new : Frames) (p : Put) (t : NumberedItem) (before : List NumberedItem) → put_of t.item ≡ Some p → AreFrames old before → Updates (slice_cmp nat_cmp) old.wires new.wires (frame_key p.lane p.number) (Some p) → AreFrames new (t ∷ before)
some_put old new p t before some h updates l n =
    updates.0 (frame_key l n)
    ∙ ap (λ (b : Bool). cond b (Some p) (frame_kept old l n)) (is_eq-slice_cmp (frame_key p.lane p.number) (frame_key l n) ∙ frame_keys p.lane l p.number n)
    ∙ ap (λ (o : Option Put). cond (lane_eq p.lane l && eqb p.number n) (Some p) o) (h l n)
    ∙ sym (ap (λ (o : Option Put). cond (is_frame l n o) o (frame_at l n before)) some)
