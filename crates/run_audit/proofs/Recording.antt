-- Which rule an item breaks, computed from the record of the items before it.
use Rattle.std.proofs.Common.{◌≡◌, ℕ, suc, ◌+◌, ◌-◌, ◌^◌, min, Bool, true, false, not, ◌&&◌, cond, eqb, List, ◌∷◌, Option, Some, None, refl, ap, arith}
use Rattle.std.specs.Prelude.{IfOk, OnOk, Result, Ok, Err}
use Rattle.std.proofs.lemmas.Bool.{eqb-true}
use Rattle.std.specs.List.{cons_option}
use Rattle.run_types.specs.declared.scenario.Scenario.{Scenario}
use Rattle.run_types.specs.declared.item.NumberedItem.{NumberedItem}
use Rattle.run_audit.specs.declared.line_kind.LineKind.{LineKind}
use Rattle.run_audit.specs.declared.frames.Frame.{Frame}
use Rattle.run_audit.specs.Kinds.{kind_at}
use Rattle.run_audit.specs.Rows.{gives_at, is_on_link}
use Rattle.run_audit.specs.Frames.{frame_of, frames}
use Rattle.run_audit.specs.Rules.{is_of_line, is_next, masks_once, hands_out, takes_new, balances, is_counted, ledgers, broken}
use Rattle.run_audit.specs.Kept.{AreNumbered}

-- the least of six rules that doesn't hold
abbrev pub least : (a b c d e f : Bool) → Option ℕ
least a b c d e f = cond (not a) (Some 1) (cond (not b) (Some 2) (cond (not c) (Some 3) (cond (not d) (Some 4) (cond (not e) (Some 5) (cond (not f) (Some 6) None)))))

pub first_one : (a b c d e f : Bool) → a ≡ false → Some 1 ≡ least a b c d e f
first_one a b c d e f p = rw p refl

pub second_one : (a b c d e f : Bool) → a ≡ true → b ≡ false → Some 2 ≡ least a b c d e f
second_one a b c d e f p q = rw (p, q) refl

pub third_one : (a b c d e f : Bool) → a ≡ true → b ≡ true → c ≡ false → Some 3 ≡ least a b c d e f
third_one a b c d e f p q r = rw (p, q, r) refl

pub fourth_one : (a b c d e f : Bool) → a ≡ true → b ≡ true → c ≡ true → d ≡ false → Some 4 ≡ least a b c d e f
fourth_one a b c d e f p q r s = rw (p, q, r, s) refl

pub fifth_one : (a b c d e f : Bool) → a ≡ true → b ≡ true → c ≡ true → d ≡ true → e ≡ false → Some 5 ≡ least a b c d e f
fifth_one a b c d e f p q r s t = rw (p, q, r, s, t) refl

pub sixth_one : (a b c d e f : Bool) → a ≡ true → b ≡ true → c ≡ true → d ≡ true → e ≡ true → f ≡ false → Some 6 ≡ least a b c d e f
sixth_one a b c d e f p q r s t u = rw (p, q, r, s, t, u) refl

pub no_one : (a b c d e f : Bool) → a ≡ true → b ≡ true → c ≡ true → d ≡ true → e ≡ true → f ≡ true → None ≡ least a b c d e f
no_one a b c d e f p q r s t u = rw (p, q, r, s, t, u) refl

-- The test of rule 1, with the kind of the item's line looked up in the table.
pub of_line : (s : Scenario) (kind : Option LineKind) (told : NumberedItem) → kind ≡ kind_at s told.number → (gives_at kind told.item && is_on_link s.site.routes told.item) ≡ is_of_line s told
of_line s kind told k = ap (λ (o : Option LineKind). gives_at o told.item && is_on_link s.site.routes told.item) k

-- If an item's frame has its lane's next number, the frames are still numbered in order behind that item.
pub numbered_more : (o : Option Frame) (fs : List Frame) → is_next o fs ≡ true → AreNumbered fs → AreNumbered (cons_option o fs)
numbered_more None fs h n = n
numbered_more (Some f) fs h n = (next_is f.number _ h, n)
  where
    next_is : (a b : ℕ) → eqb a b ≡ true → a ≡ b
    next_is a b e = eqb-true a b e

pub ledgers_more : (told : NumberedItem) (before : List NumberedItem) (k : ℕ) → k ≡ min (ledgers before) (2 ^ 32 - 1) → cond (is_counted told.item) (min (k + 1) (2 ^ 32 - 1)) k ≡ min (ledgers (told ∷ before)) (2 ^ 32 - 1)
ledgers_more told before k h = by_item (is_counted told.item)
  where
    by_item : (b : Bool) → cond b (min (k + 1) (2 ^ 32 - 1)) k ≡ min (cond b (suc (ledgers before)) (ledgers before)) (2 ^ 32 - 1)
    by_item true = omega arith
    by_item false = h

-- If P holds of a successful result and implies Q, then Q holds of it.
pub ok_map : {V E : Type 0} (r : Result V E) {P Q : V → Type 0} → ((v : V) → P v → Q v) → IfOk r P → IfOk r Q
ok_map (Ok v) f h = f v h
ok_map (Err e) f h = tt

pub on_ok_map : {V E : Type 0} (r : Result V E) {P Q : Type 0} → (P → Q) → OnOk r P → OnOk r Q
on_ok_map (Ok v) f h = f h
on_ok_map (Err e) f h = tt

-- ---- the first rule whose test fails is the rule that is broken

module _ (s : Scenario) (before : List NumberedItem) (told : NumberedItem) where
  pub breaks_1 : is_of_line s told ≡ false → Some 1 ≡ broken s before told
  breaks_1 = first_one (is_of_line s told) (is_next (frame_of told.item) (frames before)) (masks_once before told.item) (hands_out s before told) (takes_new s before told) (balances before told.item)

  pub breaks_2 : is_of_line s told ≡ true → is_next (frame_of told.item) (frames before) ≡ false → Some 2 ≡ broken s before told
  breaks_2 = second_one (is_of_line s told) (is_next (frame_of told.item) (frames before)) (masks_once before told.item) (hands_out s before told) (takes_new s before told) (balances before told.item)

  pub breaks_3 : is_of_line s told ≡ true → is_next (frame_of told.item) (frames before) ≡ true → masks_once before told.item ≡ false → Some 3 ≡ broken s before told
  breaks_3 = third_one (is_of_line s told) (is_next (frame_of told.item) (frames before)) (masks_once before told.item) (hands_out s before told) (takes_new s before told) (balances before told.item)

  -- Rules 1 to 3 hold for the item.
  pub record IsPlacedWell : Type 0 where
    pub line : is_of_line s told ≡ true
    pub next : is_next (frame_of told.item) (frames before) ≡ true
    pub apart : masks_once before told.item ≡ true

  pub breaks_4 : IsPlacedWell → hands_out s before told ≡ false → Some 4 ≡ broken s before told
  breaks_4 w = fourth_one (is_of_line s told) (is_next (frame_of told.item) (frames before)) (masks_once before told.item) (hands_out s before told) (takes_new s before told) (balances before told.item) w.line w.next w.apart

  pub breaks_5 : IsPlacedWell → hands_out s before told ≡ true → takes_new s before told ≡ false → Some 5 ≡ broken s before told
  breaks_5 w = fifth_one (is_of_line s told) (is_next (frame_of told.item) (frames before)) (masks_once before told.item) (hands_out s before told) (takes_new s before told) (balances before told.item) w.line w.next w.apart

  pub breaks_6 : IsPlacedWell → hands_out s before told ≡ true → takes_new s before told ≡ true → balances before told.item ≡ false → Some 6 ≡ broken s before told
  breaks_6 w = sixth_one (is_of_line s told) (is_next (frame_of told.item) (frames before)) (masks_once before told.item) (hands_out s before told) (takes_new s before told) (balances before told.item) w.line w.next w.apart

  pub breaks_none : IsPlacedWell → hands_out s before told ≡ true → takes_new s before told ≡ true → balances before told.item ≡ true → None ≡ broken s before told
  breaks_none w = no_one (is_of_line s told) (is_next (frame_of told.item) (frames before)) (masks_once before told.item) (hands_out s before told) (takes_new s before told) (balances before told.item) w.line w.next w.apart
