-- The set of due frames, when one frame is added, changed or removed.
use Rattle.std.proofs.Common.{◌≡◌, ℕ, zero, suc, ◌+◌, ◌<◌, ◌≤◌, Bool, true, false, ◌||◌, ◌&&◌, List, [], ◌∷◌, ◌++◌, refl, sym, ◌∙◌, ap, arith, Option, Some, None, ◌⊎◌, inl, inr}
use Rattle.std.specs.Prelude.{slice_get, slice_set, ◌==◌, if◌then◌else◌}
use Rattle.std.specs.List.{list_any}
use Rattle.std.specs.Str.{bytes_eq}
use Rattle.std.proofs.lemmas.List.Folds.{list_any-append}
use Rattle.qkd_base.specs.Lane.{lane_eq, way_eq}
use Rattle.qkd_base.specs.declared.lane.Lane.{Lane}
use Rattle.qkd_base.specs.declared.lane.Way.{Way}
use Rattle.qkd_base.specs.declared.lane.Way.TheVariants.{Up, Down}
use Rattle.ordered_set.specs.Entries.{has_entry}
use Rattle.relay_core.specs.Firsts.{IsFirstFrom, IsNoneFrom}
use Rattle.relay_core.proofs.Firsts.{any_at, none_any}
use Rattle.relay_core.proofs.Names.{eq_same, eq_from, and_left, and_right}
use Rattle.resend_window.specs.declared.held.Held.{Held}
use Rattle.resend_window.specs.declared.edit.Query.{Query}
use Rattle.resend_window.specs.declared.edit.Query.TheVariants.{At}
use Rattle.resend_window.specs.declared.edit.Edit.{Edit}
use Rattle.resend_window.specs.declared.edit.Edit.TheVariants.{MarkDue, Renew, Renumber, Ripen, Remove}
use Rattle.resend_window.specs.Kept.{somes}
use Rattle.resend_window.specs.Held.{is_ready}
use Rattle.resend_window.specs.Slots.{passes, is_asked, edit, edited}
use Rattle.resend_window.specs.Groups.{offset_group, is_removal}
use Rattle.resend_window.specs.Dues.{stands, goes_at, due_entry, AreDues, AreAlikeBut, AreAlike}
use Rattle.resend_window.proofs.Lists.{any_somes, somes_push}
use Rattle.resend_window.proofs.Edits.{lane_sym}
use Rattle.resend_window.proofs.Catalogues.{entry_eq}
use Rattle.resend_window.proofs.Grouped.{offset_is}
use Rattle.resend_window.proofs.Placings.{lane_from}

and_true : (b : Bool) → (b && true) ≡ b
and_true true = refl
and_true false = refl

-- two entries are equal exactly if their lanes and their offsets are
due_is : (l m : Lane) (x y : ℕ) → bytes_eq (due_entry l x) (due_entry m y) ≡ (lane_eq m l && (x == y))
due_is l m x y = entry_eq (offset_group 0 l 0) (offset_group 0 m 0) x y ∙ ap (λ (b : Bool). b && (x == y)) (offset_is 0 l m 0 0 ∙ and_true (lane_eq m l))

way_same : (w : Way) → way_eq w w ≡ true
way_same Up = refl
way_same Down = refl

pub stands_self : (h : Held) → stands h.lane h.offset h ≡ true
stands_self h =
    ap (λ (b : Bool). (b && way_eq h.lane.way h.lane.way) && (h.offset == h.offset)) (eq_same h.lane.link)
    ∙ ap (λ (b : Bool). b && (h.offset == h.offset)) (way_same h.lane.way) ∙ eq_same h.offset

-- a frame at one entry isn't sent again from a different one
goes_off : (l m : Lane) (x y : ℕ) (h : Held) → bytes_eq (due_entry l x) (due_entry m y) ≡ false → stands l x h ≡ true → goes_at m y h ≡ false
goes_off l m x y h off at =
    ap (λ (k : Lane). (lane_eq k m && (h.offset == y)) && is_ready h) (lane_from h.lane l (and_left (lane_eq h.lane l) (h.offset == x) at))
    ∙ ap (λ (z : ℕ). (lane_eq l m && (z == y)) && is_ready h) (eq_from h.offset x (and_right (lane_eq h.lane l) (h.offset == x) at))
    ∙ ap (λ (b : Bool). (b && (x == y)) && is_ready h) (lane_sym l m)
    ∙ ap (λ (b : Bool). b && is_ready h) (sym (due_is l m x y) ∙ off)

-- the set stays right if one entry is updated
pub noted : (l : Lane) (x : ℕ) (before after : List (Option Held)) (old new : List (List ℕ)) (b : Bool) → AreAlikeBut l x before after → b ≡ list_any (goes_at l x) (somes after) → AreDues before old →
    ((e : List ℕ) → bytes_eq (due_entry l x) e ≡ true → has_entry new e ≡ b) → ((e : List ℕ) → bytes_eq (due_entry l x) e ≡ false → has_entry new e ≡ has_entry old e) → AreDues after new
noted l x before after old new b alike is was here there = record { has = λ m y. by m y (bytes_eq (due_entry l x) (due_entry m y)) refl }
  where
    by : (m : Lane) (y : ℕ) (c : Bool) → bytes_eq (due_entry l x) (due_entry m y) ≡ c → has_entry new (due_entry m y) ≡ list_any (goes_at m y) (somes after)
    by m y true e =
        let same = sym (due_is l m x y) ∙ e in
        here (due_entry m y) e ∙ is
        ∙ ap (λ (k : Lane). list_any (goes_at k x) (somes after)) (sym (lane_from m l (and_left (lane_eq m l) (x == y) same)))
        ∙ ap (λ (z : ℕ). list_any (goes_at m z) (somes after)) (eq_from x y (and_right (lane_eq m l) (x == y) same))
    by m y false e = there (due_entry m y) e ∙ was.has m y ∙ sym (alike (goes_at m y) (λ h at. goes_off l m x y h e at))

pub noted_due : (l : Lane) (x : ℕ) (before after : List (Option Held)) (old new : List (List ℕ)) → AreAlikeBut l x before after → list_any (goes_at l x) (somes after) ≡ true → AreDues before old →
    ((e : List ℕ) → has_entry new e ≡ (bytes_eq (due_entry l x) e || has_entry old e)) → AreDues after new
noted_due l x before after old new alike is was one =
    noted l x before after old new true alike (sym is) was (λ e h. one e ∙ ap (λ (b : Bool). b || has_entry old e) h) (λ e h. one e ∙ ap (λ (b : Bool). b || has_entry old e) h)

pub noted_gone : (l : Lane) (x : ℕ) (before after : List (Option Held)) (old new : List (List ℕ)) → AreAlikeBut l x before after → list_any (goes_at l x) (somes after) ≡ false → AreDues before old →
    ((e : List ℕ) → has_entry new e ≡ (if bytes_eq (due_entry l x) e then false else has_entry old e)) → AreDues after new
noted_gone l x before after old new alike is was one =
    noted l x before after old new false alike (sym is) was (λ e h. one e ∙ ap (λ (b : Bool). if b then false else has_entry old e) h) (λ e h. one e ∙ ap (λ (b : Bool). if b then false else has_entry old e) h)

-- adding a frame

any_push : (t : Held → Bool) (slots : List (Option Held)) (h : Held) → list_any t (somes (slots ++ Some h ∷ [])) ≡ (list_any t (somes slots) || (t h || false))
any_push t slots h = ap (list_any t) (somes_push slots h) ∙ list_any-append t (somes slots) (h ∷ [])

pub added_ready : (slots : List (Option Held)) (h : Held) (old new : List (List ℕ)) → is_ready h ≡ true → AreDues slots old →
    ((e : List ℕ) → has_entry new e ≡ (bytes_eq (due_entry h.lane h.offset) e || has_entry old e)) → AreDues (slots ++ Some h ∷ []) new
added_ready slots h old new ready was one = record {
  has = λ m y.
      let any = list_any (goes_at m y) (somes slots) in
      one (due_entry m y)
      ∙ ap (λ (b : Bool). b || has_entry old (due_entry m y)) (due_is h.lane m h.offset y)
      ∙ ap (λ (b : Bool). (lane_eq m h.lane && (h.offset == y)) || b) (was.has m y)
      ∙ ap (λ (b : Bool). (b && (h.offset == y)) || any) (lane_sym m h.lane)
      ∙ swap (lane_eq h.lane m && (h.offset == y)) any
      ∙ ap (λ (b : Bool). any || (((lane_eq h.lane m && (h.offset == y)) && b) || false)) (sym ready)
      ∙ sym (any_push (goes_at m y) slots h);
}
  where
    swap : (s a : Bool) → (s || a) ≡ (a || ((s && true) || false))
    swap true true = refl
    swap true false = refl
    swap false true = refl
    swap false false = refl

pub added_later : (slots : List (Option Held)) (h : Held) (es : List (List ℕ)) → is_ready h ≡ false → AreDues slots es → AreDues (slots ++ Some h ∷ []) es
added_later slots h es ready was = record {
  has = λ m y.
      let any = list_any (goes_at m y) (somes slots) in
      was.has m y
      ∙ none (stands m y h) any
      ∙ ap (λ (b : Bool). any || ((stands m y h && b) || false)) (sym ready)
      ∙ sym (any_push (goes_at m y) slots h);
}
  where
    none : (s a : Bool) → a ≡ (a || ((s && false) || false))
    none true true = refl
    none true false = refl
    none false true = refl
    none false false = refl

somes_gap : {A : Type 0} (xs : List (Option A)) → somes (xs ++ None ∷ []) ≡ somes xs
somes_gap [] = refl
somes_gap (None ∷ xs) = somes_gap xs
somes_gap (Some x ∷ xs) = ap (λ ys. x ∷ ys) (somes_gap xs)

pub added_gap : (slots : List (Option Held)) (es : List (List ℕ)) → AreDues slots es → AreDues (slots ++ None ∷ []) es
added_gap slots es was = record { has = λ m y. was.has m y ∙ ap (list_any (goes_at m y)) (sym (somes_gap slots)) }

-- a list in which one slot was changed

pub StandsAs : Option Held → Option Held → Type 0
StandsAs None None = Unit {0}
StandsAs None (Some h) = ⊥
StandsAs (Some k) None = Unit {0}
StandsAs (Some k) (Some h) = stands k.lane k.offset h ≡ true

pub gone_stands : (o : Option Held) → StandsAs o None
unfolding StandsAs
gone_stands None = tt
gone_stands (Some k) = tt

edit_stands : (e : Edit) (h : Held) → is_removal e ≡ false → StandsAs (Some h) (edit e h)
unfolding StandsAs
edit_stands MarkDue h kept = stands_self h
edit_stands (Renew n) h kept = stands_self h
edit_stands (Renumber n) h kept = stands_self h
edit_stands Ripen h kept = stands_self h
edit_stands Remove h kept = tt

pub edited_stands : (q : Query) (e : Edit) (o : Option Held) → is_removal e ≡ false → StandsAs o (edited q e o)
unfolding StandsAs
edited_stands q e None kept = tt
edited_stands q e (Some h) kept = by (is_asked q h)
  where
    by : (b : Bool) → StandsAs (Some h) (if b then edit e h else Some h)
    by true = edit_stands e h kept
    by false = stands_self h

none_set : (t : Held → Bool) (xs : List (Option Held)) (p : ℕ) (next : Option Held) → slice_get xs p ≡ Some None → StandsAs None next → list_any t (somes (slice_set xs p next)) ≡ list_any t (somes xs)
unfolding StandsAs
none_set t xs p (Some h) there still = absurd still
none_set t [] p None there still = refl
none_set t (o ∷ xs) zero None there still = let same : o ≡ None = cc in ap (λ (q : Option Held). list_any t (somes (q ∷ xs))) (sym same)
none_set t (None ∷ xs) (suc p) None there still = none_set t xs p None there still
none_set t (Some y ∷ xs) (suc p) None there still = ap (λ (b : Bool). t y || b) (none_set t xs p None there still)

one_set : (t : Held → Bool) (xs : List (Option Held)) (p : ℕ) (k : Held) (next : Option Held) → slice_get xs p ≡ Some (Some k) → StandsAs (Some k) next → ((h : Held) → stands k.lane k.offset h ≡ true → t h ≡ false) →
    list_any t (somes (slice_set xs p next)) ≡ list_any t (somes xs)
unfolding StandsAs
one_set t [] p k next there still off = cc
one_set t (o ∷ xs) zero k None there still off =
    let same : o ≡ Some k = cc in
    sym (ap (λ (q : Option Held). list_any t (somes (q ∷ xs))) same ∙ ap (λ (b : Bool). b || list_any t (somes xs)) (off k (stands_self k)))
one_set t (o ∷ xs) zero k (Some h) there still off =
    let same : o ≡ Some k = cc in
    ap (λ (b : Bool). b || list_any t (somes xs)) (off h still)
    ∙ sym (ap (λ (q : Option Held). list_any t (somes (q ∷ xs))) same ∙ ap (λ (b : Bool). b || list_any t (somes xs)) (off k (stands_self k)))
one_set t (None ∷ xs) (suc p) k next there still off = one_set t xs p k next there still off
one_set t (Some y ∷ xs) (suc p) k next there still off = ap (λ (b : Bool). t y || b) (one_set t xs p k next there still off)

pub alike_set : (xs : List (Option Held)) (p : ℕ) (was next : Option Held) → slice_get xs p ≡ Some was → StandsAs was next → AreAlike was xs (slice_set xs p next)
alike_set xs p None next there still = λ t. none_set t xs p next there still
alike_set xs p (Some k) next there still = λ t off. one_set t xs p k next there still off

-- a list in which one slot was changed, whose frame isn't sent again before and after

off_ready : (l : Lane) (x : ℕ) (o : Option Held) → passes is_ready o ≡ false → passes (goes_at l x) o ≡ false
off_ready l x None h = refl
off_ready l x (Some k) h = ap (λ (b : Bool). stands l x k && b) h ∙ none (stands l x k)
  where
    none : (b : Bool) → (b && false) ≡ false
    none true = refl
    none false = refl

calm_set : (t : Held → Bool) (xs : List (Option Held)) (p : ℕ) (was next : Option Held) → slice_get xs p ≡ Some was → passes t was ≡ false → passes t next ≡ false →
    list_any t (somes (slice_set xs p next)) ≡ list_any t (somes xs)
calm_set t xs p was next there before after = sym (any_somes t (slice_set xs p next)) ∙ by xs p there ∙ any_somes t xs
  where
    by : (xs : List (Option Held)) (p : ℕ) → slice_get xs p ≡ Some was → list_any (passes t) (slice_set xs p next) ≡ list_any (passes t) xs
    by [] p there = refl
    by (o ∷ xs) zero there =
        let same : o ≡ was = cc in
        ap (λ (b : Bool). b || list_any (passes t) xs) (after ∙ sym (ap (passes t) same ∙ before))
    by (o ∷ xs) (suc p) there = ap (λ (b : Bool). passes t o || b) (by xs p there)

pub calm_dues : (xs : List (Option Held)) (p : ℕ) (was next : Option Held) (es : List (List ℕ)) → slice_get xs p ≡ Some was → passes is_ready was ≡ false → passes is_ready next ≡ false →
    AreDues xs es → AreDues (slice_set xs p next) es
calm_dues xs p was next es there before after dues = record {
  has = λ m y. dues.has m y ∙ sym (calm_set (goes_at m y) xs p was next there (off_ready m y was before) (off_ready m y next after));
}

-- whether a frame at this offset of this lane is sent again

off_asked : (l : Lane) (x : ℕ) (o : Option Held) → passes (is_asked (At l x)) o ≡ false → passes (goes_at l x) o ≡ false
off_asked l x None h = refl
off_asked l x (Some k) h = ap (λ (b : Bool). b && is_ready k) h

both_go : (l : Lane) (x : ℕ) (o : Option Held) → passes (is_asked (At l x)) o ≡ true → passes is_ready o ≡ true → passes (goes_at l x) o ≡ true
both_go l x None h k = h
both_go l x (Some g) h k = ap (λ (b : Bool). b && is_ready g) h ∙ k

order : (a b : ℕ) → (a < b) ⊎ (b ≤ a)
order a zero = inr (omega arith)
order zero (suc b) = inl (omega arith)
order (suc a) (suc b) = elim (order a b) [ inl h ↦ inl (omega arith) | inr h ↦ inr (omega arith) ]

pub due_some : (l : Lane) (x : ℕ) (slots : List (Option Held)) (from place : ℕ) (r : Option Held) → IsFirstFrom (passes (is_asked (At l x))) slots from place → slice_get slots place ≡ Some r → passes is_ready r ≡ true →
    list_any (goes_at l x) (somes slots) ≡ true
due_some l x slots from place r first there ready =
    let same : first.item ≡ r = (let e : Some first.item ≡ Some r = sym first.there ∙ there in cc) in
    sym (any_somes (goes_at l x) slots) ∙ any_at (passes (goes_at l x)) slots place r there (both_go l x r (ap (passes (is_asked (At l x))) (sym same) ∙ first.passes) ready)

pub due_turn : (l : Lane) (x : ℕ) (slots : List (Option Held)) (from place : ℕ) (r : Option Held) → ((p : ℕ) (o : Option Held) → p < from → slice_get slots p ≡ Some o → passes (goes_at l x) o ≡ false) →
    IsFirstFrom (passes (is_asked (At l x))) slots from place → slice_get slots place ≡ Some r → passes is_ready r ≡ false → (p : ℕ) (o : Option Held) → p < place + 1 → slice_get slots p ≡ Some o → passes (goes_at l x) o ≡ false
due_turn l x slots from place r done first there later p o lt got = by (order p place)
  where
    before : p < place → (p < from) ⊎ (from ≤ p) → passes (goes_at l x) o ≡ false
    before le (inl h) = done p o h got
    before le (inr h) = off_asked l x o (first.before p o h le got)

    by : (p < place) ⊎ (place ≤ p) → passes (goes_at l x) o ≡ false
    by (inl h) = before h (order p from)
    by (inr h) =
        let at : p ≡ place = omega arith in
        let same : r ≡ o = (let e : Some r ≡ Some o = sym there ∙ ap (slice_get slots) (sym at) ∙ got in cc) in
        off_ready l x o (ap (passes is_ready) (sym same) ∙ later)

pub due_none : (l : Lane) (x : ℕ) (slots : List (Option Held)) (from : ℕ) → ((p : ℕ) (o : Option Held) → p < from → slice_get slots p ≡ Some o → passes (goes_at l x) o ≡ false) →
    IsNoneFrom (passes (is_asked (At l x))) slots from → list_any (goes_at l x) (somes slots) ≡ false
due_none l x slots from done none = sym (any_somes (goes_at l x) slots) ∙ none_any (passes (goes_at l x)) slots (record { none = λ p o le got. by p o got (order p from) })
  where
    by : (p : ℕ) (o : Option Held) → slice_get slots p ≡ Some o → (p < from) ⊎ (from ≤ p) → passes (goes_at l x) o ≡ false
    by p o got (inl h) = done p o h got
    by p o got (inr h) = off_asked l x o (none.none p o h got)
