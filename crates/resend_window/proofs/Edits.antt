-- Frames changed and removed in place.
use Rattle.std.proofs.Common.{◌≡◌, ℕ, zero, suc, ◌+◌, ◌-◌, ◌<◌, ◌≤◌, Bool, true, false, ◌||◌, ◌&&◌, List, [], ◌∷◌, ◌++◌, length, take, refl, sym, ◌∙◌, ap, arith, Option, Some, None}
use Rattle.std.specs.Prelude.{slice_get, map, filter, ◌==◌, is_none, not, if◌then◌else◌}
use Rattle.std.specs.List.{list_any}
use Rattle.std.proofs.lemmas.Bool.Decides.{nat_tests}
use Rattle.std.proofs.lemmas.List.Folds.{list_any-append}
use Rattle.qkd_base.specs.Lane.{lane_eq, way_eq, reverse_lane, reverse_way}
use Rattle.qkd_base.specs.declared.lane.Lane.{Lane}
use Rattle.qkd_base.specs.declared.lane.Way.{Way}
use Rattle.qkd_base.specs.declared.lane.Way.TheVariants.{Up, Down}
use Rattle.net_model.specs.declared.repeat.Repeat.{Repeat}
use Rattle.resend_window.specs.declared.held.Held.{Held}
use Rattle.resend_window.specs.declared.edit.Query.{Query}
use Rattle.resend_window.specs.declared.edit.Query.TheVariants.{At, SentAt}
use Rattle.resend_window.specs.declared.edit.Edit.{Edit}
use Rattle.resend_window.specs.declared.edit.Edit.TheVariants.{MarkDue, Renew, Renumber, Ripen, Remove}
use Rattle.resend_window.specs.Kept.{somes}
use Rattle.resend_window.specs.Slots.{passes, removed, is_asked, edit, edited}
use Rattle.resend_window.specs.Lists.{is_repeated, renewed_by, ripened_at}
use Rattle.resend_window.proofs.Lists.{somes_changed, map_map, map_same}

-- removing

pub removed_again : {A : Type 0} (t : A → Bool) (o : Option A) → removed t (removed t o) ≡ removed t o
removed_again t None = refl
removed_again {A} t (Some x) = by (t x) refl
  where
    by : (b : Bool) → t x ≡ b → removed t (if b then None else Some x) ≡ (if b then None else Some x)
    by true e = refl
    by false e = ap (λ (b : Bool). if b then None else Some x) e

pub removed_kept : {A : Type 0} (t : A → Bool) (o : Option A) → passes t o ≡ false → removed t o ≡ o
removed_kept t None h = refl
removed_kept {A} t (Some x) h = ap (λ (b : Bool). if b then None else Some x) h

pub removed_hit : {A : Type 0} (t : A → Bool) (o : Option A) → passes t o ≡ true → removed t o ≡ None
removed_hit t None h = refl
removed_hit {A} t (Some x) h = ap (λ (b : Bool). if b then None else Some x) h

-- changing

edit_again : (q : Query) (e : Edit) (h : Held) → edited q e (edit e h) ≡ edit e h
edit_again q MarkDue h = let k = record h { due = true } in elim (is_asked q k) as (λ b. (if b then edit MarkDue k else Some k) ≡ Some k) [ true ↦ refl | false ↦ refl ]
edit_again q (Renew n) h = let k = record h { sent = n; due = false; ripe = false } in elim (is_asked q k) as (λ b. (if b then edit (Renew n) k else Some k) ≡ Some k) [ true ↦ refl | false ↦ refl ]
edit_again q (Renumber n) h = let k = record h { number = Some n } in elim (is_asked q k) as (λ b. (if b then edit (Renumber n) k else Some k) ≡ Some k) [ true ↦ refl | false ↦ refl ]
edit_again q Ripen h = let k = record h { ripe = true } in elim (is_asked q k) as (λ b. (if b then edit Ripen k else Some k) ≡ Some k) [ true ↦ refl | false ↦ refl ]
edit_again q Remove h = refl

pub edited_again : (q : Query) (e : Edit) (o : Option Held) → edited q e (edited q e o) ≡ edited q e o
edited_again q e None = refl
edited_again q e (Some h) = by (is_asked q h) refl
  where
    by : (b : Bool) → is_asked q h ≡ b → edited q e (if b then edit e h else Some h) ≡ (if b then edit e h else Some h)
    by true a = edit_again q e h
    by false a = ap (λ (b : Bool). if b then edit e h else Some h) a

pub edited_kept : (q : Query) (e : Edit) (o : Option Held) → passes (is_asked q) o ≡ false → edited q e o ≡ o
edited_kept q e None h = refl
edited_kept q e (Some k) h = ap (λ (b : Bool). if b then edit e k else Some k) h

-- the first items of a list, and one more

pub take_more : {A : Type 0} (xs : List A) (i : ℕ) (x : A) → slice_get xs i ≡ Some x → take (i + 1) xs ≡ take i xs ++ x ∷ []
take_more xs i x h = let e : i + 1 ≡ suc i = omega arith in ap (λ n. take n xs) e ∙ by xs i x h
  where
    by : {A : Type 0} (xs : List A) (i : ℕ) (x : A) → slice_get xs i ≡ Some x → take (suc i) xs ≡ take i xs ++ x ∷ []
    by [] i x h = cc
    by (y ∷ ys) zero x h = let same : y ≡ x = cc in ap (λ z. z ∷ []) same
    by (y ∷ ys) (suc i) x h = ap (λ zs. y ∷ zs) (by ys i x h)

-- equality of lanes is symmetric

eq_sym : (a b : ℕ) → (a == b) ≡ (b == a)
eq_sym a b = grind (arith, nat_tests)

way_sym : (a b : Way) → way_eq a b ≡ way_eq b a
way_sym Up Up = refl
way_sym Up Down = refl
way_sym Down Up = refl
way_sym Down Down = refl

pub lane_sym : (a b : Lane) → lane_eq a b ≡ lane_eq b a
lane_sym a b = ap (λ (c : Bool). c && way_eq a.way b.way) (eq_sym a.link b.link) ∙ ap (λ (c : Bool). (b.link == a.link) && c) (way_sym a.way b.way)

way_turned : (a b : Way) → way_eq a (reverse_way b) ≡ way_eq b (reverse_way a)
way_turned Up Up = refl
way_turned Up Down = refl
way_turned Down Up = refl
way_turned Down Down = refl

pub lane_turned : (a b : Lane) → lane_eq a (reverse_lane b) ≡ lane_eq b (reverse_lane a)
lane_turned a b = ap (λ (c : Bool). c && way_eq a.way (reverse_way b.way)) (eq_sym a.link b.link) ∙ ap (λ (c : Bool). (b.link == a.link) && c) (way_turned a.way b.way)

-- frames that were repeated

at_sym : (h : Held) (r : Repeat) → is_asked (At r.lane r.offset) h ≡ (lane_eq r.lane h.lane && (r.offset == h.offset))
at_sym h r = ap (λ (b : Bool). b && (h.offset == r.offset)) (lane_sym h.lane r.lane) ∙ ap (λ (b : Bool). lane_eq r.lane h.lane && b) (eq_sym h.offset r.offset)

renewed_push : (tick : ℕ) (rs : List Repeat) (r : Repeat) (h : Held) →
    (let k = renewed_by tick rs h in if is_asked (At r.lane r.offset) k then record k { sent = tick; due = false; ripe = false } else k) ≡ renewed_by tick (rs ++ r ∷ []) h
renewed_push tick rs r h = by (is_repeated rs h) (is_asked (At r.lane r.offset) h) refl refl
  where
    both : is_repeated (rs ++ r ∷ []) h ≡ (is_repeated rs h || (is_asked (At r.lane r.offset) h || false))
    both = list_any-append (λ (x : Repeat). lane_eq x.lane h.lane && (x.offset == h.offset)) rs (r ∷ []) ∙ ap (λ (b : Bool). is_repeated rs h || (b || false)) (sym (at_sym h r))

    by : (a b : Bool) → is_repeated rs h ≡ a → is_asked (At r.lane r.offset) h ≡ b →
        (let k = renewed_by tick rs h in if is_asked (At r.lane r.offset) k then record k { sent = tick; due = false; ripe = false } else k) ≡ renewed_by tick (rs ++ r ∷ []) h
    by true b p q =
        ap (λ (c : Bool). let k = if c then record h { sent = tick; due = false; ripe = false } else h in if is_asked (At r.lane r.offset) k then record k { sent = tick; due = false; ripe = false } else k) p
        ∙ same (is_asked (At r.lane r.offset) h) ∙ sym (ap (λ (c : Bool). if c then record h { sent = tick; due = false; ripe = false } else h) (both ∙ ap (λ (c : Bool). c || (is_asked (At r.lane r.offset) h || false)) p))
      where
        same : (c : Bool) → (let k = record h { sent = tick; due = false; ripe = false } in if c then record k { sent = tick; due = false; ripe = false } else k) ≡ record h { sent = tick; due = false; ripe = false }
        same true = refl
        same false = refl
    by false b p q =
        ap (λ (c : Bool). let k = if c then record h { sent = tick; due = false; ripe = false } else h in if is_asked (At r.lane r.offset) k then record k { sent = tick; due = false; ripe = false } else k) p
        ∙ sym (ap (λ (c : Bool). if c then record h { sent = tick; due = false; ripe = false } else h) (both ∙ ap (λ (c : Bool). c || (is_asked (At r.lane r.offset) h || false)) p ∙ plain (is_asked (At r.lane r.offset) h)))
      where
        plain : (c : Bool) → (c || false) ≡ c
        plain true = refl
        plain false = refl

-- recording one more repeat
pub renewed_more : (tick : ℕ) (slots first : List (Option Held)) (after : List (Option Held)) (rs : List Repeat) (r : Repeat) → somes slots ≡ map (renewed_by tick rs) (somes first) →
    after ≡ map (edited (At r.lane r.offset) (Renew tick)) slots → somes after ≡ map (renewed_by tick (rs ++ r ∷ [])) (somes first)
renewed_more tick slots first after rs r was e =
    ap somes e
    ∙ somes_changed (is_asked (At r.lane r.offset)) (λ h. record h { sent = tick; due = false; ripe = false }) (edited (At r.lane r.offset) (Renew tick)) refl (λ h. refl) slots
    ∙ ap (map (λ h. if is_asked (At r.lane r.offset) h then record h { sent = tick; due = false; ripe = false } else h)) was
    ∙ map_map (renewed_by tick rs) (λ h. if is_asked (At r.lane r.offset) h then record h { sent = tick; due = false; ripe = false } else h) (somes first)
    ∙ map_same (λ h. let k = renewed_by tick rs h in if is_asked (At r.lane r.offset) k then record k { sent = tick; due = false; ripe = false } else k) (renewed_by tick (rs ++ r ∷ [])) (renewed_push tick rs r) (somes first)

pub renewed_none : (tick : ℕ) (hs : List Held) → hs ≡ map (renewed_by tick []) hs
renewed_none tick [] = refl
renewed_none tick (h ∷ hs) = ap (λ ks. h ∷ ks) (renewed_none tick hs)

-- the frames that were last sent three ticks before

ripen_is : (tick : ℕ) (h : Held) → 3 ≤ tick → (if is_asked (SentAt (tick - 3)) h then record h { ripe = true } else h) ≡ ripened_at tick h
ripen_is tick h late = ap (λ (b : Bool). if is_none h.ack_of && b then record h { ripe = true } else h) (same h.sent)
  where
    same : (s : ℕ) → (s == tick - 3) ≡ (s + 3 == tick)
    same s = grind (arith, nat_tests)

pub ripened_all : (tick : ℕ) (slots after : List (Option Held)) → 3 ≤ tick → after ≡ map (edited (SentAt (tick - 3)) Ripen) slots → somes after ≡ map (ripened_at tick) (somes slots)
ripened_all tick slots after late e =
    ap somes e
    ∙ somes_changed (is_asked (SentAt (tick - 3))) (λ h. record h { ripe = true }) (edited (SentAt (tick - 3)) Ripen) refl (λ h. refl) slots
    ∙ map_same (λ h. if is_asked (SentAt (tick - 3)) h then record h { ripe = true } else h) (ripened_at tick) (λ h. ripen_is tick h late) (somes slots)

pub ripened_none : (tick : ℕ) (hs : List Held) → tick < 3 → hs ≡ map (ripened_at tick) hs
ripened_none tick [] early = refl
ripened_none tick (h ∷ hs) early =
    ap (λ ks. h ∷ ks) (ripened_none tick hs early)
    ∙ sym (ap (λ (b : Bool). (if is_none h.ack_of && b then record h { ripe = true } else h) ∷ map (ripened_at tick) hs) (none h.sent) ∙ ap (λ (b : Bool). (if b then record h { ripe = true } else h) ∷ map (ripened_at tick) hs) (off (is_none h.ack_of)))
  where
    none : (s : ℕ) → (s + 3 == tick) ≡ false
    none s = grind (arith, nat_tests)

    off : (b : Bool) → (b && false) ≡ false
    off true = refl
    off false = refl
