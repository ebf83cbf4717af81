-- The window's lists after a placing.
use Rattle.std.proofs.Common.{◌≡◌, ℕ, zero, suc, ◌+◌, ◌-◌, ◌<◌, ◌≤◌, min, Bool, true, false, ◌||◌, ◌&&◌, List, [], ◌∷◌, ◌++◌, length, drop, refl, sym, ◌∙◌, ap, subst, arith, Option, Some, None}
use Rattle.std.specs.Prelude.{map, filter, slice_get, ◌==◌, not, is_some, if◌then◌else◌, IfSome, IfNone, ◌^◌}
use Rattle.std.specs.List.{list_any}
use Rattle.std.specs.Option.{option_map}
use Rattle.std.proofs.lemmas.Bool.Decides.{nat_tests}
use Rattle.qkd_base.specs.Lane.{lane_eq, way_eq, reverse_lane}
use Rattle.qkd_base.specs.declared.lane.Way.{Way}
use Rattle.qkd_base.specs.declared.lane.Way.TheVariants.{Up, Down}
use Rattle.relay_core.proofs.Names.{eq_from, and_left, and_right}
use Rattle.qkd_base.specs.Name.{Name}
use Rattle.qkd_base.specs.declared.lane.Lane.{Lane}
use Rattle.net_model.specs.declared.placing.Placing.{Placing}
use Rattle.net_model.specs.World.{Entry, PendingAck, Transmission, Volatile}
use Rattle.net_model.specs.Window.{transmission_of, transmission_eq, stands_at, entry_of, is_pending_of, record_retransmission, complete_one, is_acked_item, offset_eq}
use Rattle.relay_core.specs.Firsts.{IsFirstFrom, IsNoneFrom}
use Rattle.resend_window.specs.declared.held.Held.{Held}
use Rattle.resend_window.specs.declared.arrival.Arrival.{Arrival}
use Rattle.resend_window.specs.declared.arrival.Pending.{Pending}
use Rattle.resend_window.specs.declared.arrival.Arrivals.TheVariants.{Of, From}
use Rattle.resend_window.specs.declared.awaited.Awaited.{Awaited}
use Rattle.resend_window.specs.declared.edit.Query.TheVariants.{At}
use Rattle.resend_window.specs.declared.edit.Edit.TheVariants.{MarkDue, Renumber}
use Rattle.resend_window.specs.Kept.{somes}
use Rattle.resend_window.specs.Held.{entry_at, entries_at, pending_ack, transmission, IsHeld, AreHeld, AreApart, stand_together}
use Rattle.resend_window.specs.Slots.{is_asked, edited, passes}
use Rattle.resend_window.specs.Lists.{is_from, is_some_from, is_same, pending_of, IsWindow, value_of}
use Rattle.resend_window.specs.Placed.{placed, order_placed, repeat_placed}
use Rattle.resend_window.proofs.Lists.{somes_changed, somes_push, map_filter, map_append, map_map, map_same, filter_same, any_map, any_same}
use Rattle.resend_window.proofs.Edits.{lane_turned}
use Rattle.resend_window.proofs.Windows.{held_push, apart_push}

-- the placing of a repeat

entries_due : (t : ℕ) (hs : List Held) (p : Placing) → p.number ≡ None → entries_at t (map (λ h. if is_asked (At p.lane p.offset) h then record h { due = true } else h) hs) ≡ map (record_retransmission p) (entries_at t hs)
entries_due t hs p none =
    map_map (λ h. if is_asked (At p.lane p.offset) h then record h { due = true } else h) (entry_at t) hs
    ∙ map_same (λ h. entry_at t (if is_asked (At p.lane p.offset) h then record h { due = true } else h)) (λ h. record_retransmission p (entry_at t h)) one hs
    ∙ sym (map_map (entry_at t) (record_retransmission p) hs)
  where
    refused : (e : Entry) → record e { due = true } ≡ (if is_some p.number then record e { number = p.number } else record e { due = true })
    refused e = sym (ap (λ (o : Option ℕ). if is_some o then record e { number = o } else record e { due = true }) none)

    one : (h : Held) → entry_at t (if is_asked (At p.lane p.offset) h then record h { due = true } else h) ≡ record_retransmission p (entry_at t h)
    one h = elim (is_asked (At p.lane p.offset) h) as (λ b. entry_at t (if b then record h { due = true } else h)
        ≡ (if b then (if is_some p.number then record (entry_at t h) { number = p.number } else record (entry_at t h) { due = true }) else entry_at t h)) [ true ↦ refused (entry_at t h) | false ↦ refl ]

entries_put : (t : ℕ) (hs : List Held) (p : Placing) (n : ℕ) → p.number ≡ Some n → entries_at t (map (λ h. if is_asked (At p.lane p.offset) h then record h { number = Some n } else h) hs) ≡ map (record_retransmission p) (entries_at t hs)
entries_put t hs p n put =
    map_map (λ h. if is_asked (At p.lane p.offset) h then record h { number = Some n } else h) (entry_at t) hs
    ∙ map_same (λ h. entry_at t (if is_asked (At p.lane p.offset) h then record h { number = Some n } else h)) (λ h. record_retransmission p (entry_at t h)) one hs
    ∙ sym (map_map (entry_at t) (record_retransmission p) hs)
  where
    taken : (e : Entry) → record e { number = Some n } ≡ (if is_some p.number then record e { number = p.number } else record e { due = true })
    taken e = sym (ap (λ (o : Option ℕ). if is_some o then record e { number = o } else record e { due = true }) put)

    one : (h : Held) → entry_at t (if is_asked (At p.lane p.offset) h then record h { number = Some n } else h) ≡ record_retransmission p (entry_at t h)
    one h = elim (is_asked (At p.lane p.offset) h) as (λ b. entry_at t (if b then record h { number = Some n } else h)
        ≡ (if b then (if is_some p.number then record (entry_at t h) { number = p.number } else record (entry_at t h) { due = true }) else entry_at t h)) [ true ↦ taken (entry_at t h) | false ↦ refl ]

pub repeat_refused : (t : ℕ) (slots after : List (Option Held)) (ps : List (Option Arrival)) (ws : List (Option Awaited)) (p : Placing) → p.number ≡ None → after ≡ map (edited (At p.lane p.offset) MarkDue) slots →
    value_of t after ps ws ≡ repeat_placed (value_of t slots ps ws) p
repeat_refused t slots after ps ws p none e =
    ap (λ (es : List Entry). record { window = es; pending_acks = map pending_ack (somes ps); awaiting = map transmission (somes ws) })
    (ap (λ hs. entries_at t hs) (ap somes e ∙ somes_changed (is_asked (At p.lane p.offset)) (λ h. record h { due = true }) (edited (At p.lane p.offset) MarkDue) refl (λ h. refl) slots) ∙ entries_due t (somes slots) p none)

pub repeat_put : (t : ℕ) (slots after : List (Option Held)) (ps : List (Option Arrival)) (ws : List (Option Awaited)) (p : Placing) (n : ℕ) → p.number ≡ Some n → after ≡ map (edited (At p.lane p.offset) (Renumber n)) slots →
    value_of t after ps ws ≡ repeat_placed (value_of t slots ps ws) p
repeat_put t slots after ps ws p n put e =
    ap (λ (es : List Entry). record { window = es; pending_acks = map pending_ack (somes ps); awaiting = map transmission (somes ws) })
    (ap (λ hs. entries_at t hs) (ap somes e ∙ somes_changed (is_asked (At p.lane p.offset)) (λ h. record h { number = Some n }) (edited (At p.lane p.offset) (Renumber n)) refl (λ h. refl) slots) ∙ entries_put t (somes slots) p n put)

-- the placing of an order

awaited_left : (ws next : List (Option Awaited)) (w : Awaited) (t : Transmission) → transmission w ≡ t → somes next ≡ filter (λ a. not (is_same w a)) (somes ws) →
    map transmission (somes next) ≡ filter (λ x. not (transmission_eq t x)) (map transmission (somes ws))
awaited_left ws next w t e left =
    ap (map transmission) left ∙ sym (map_filter transmission (λ x. not (transmission_eq (transmission w) x)) (somes ws))
    ∙ ap (λ (u : Transmission). filter (λ x. not (transmission_eq u x)) (map transmission (somes ws))) e

eq_sym : (a b : ℕ) → (a == b) ≡ (b == a)
eq_sym a b = grind (arith, nat_tests)

and_false : (b : Bool) → (b && false) ≡ false
and_false true = refl
and_false false = refl

sent_is : (l : Lane) (o : Option ℕ) (a : Arrival) → is_some_from (reverse_lane l) o a ≡ (lane_eq l (reverse_lane a.lane) && offset_eq o (Some a.offset))
sent_is l None a = sym (and_false (lane_eq l (reverse_lane a.lane)))
sent_is l (Some x) a = ap (λ (b : Bool). b && (a.offset == x)) (lane_turned a.lane l) ∙ ap (λ (b : Bool). lane_eq l (reverse_lane a.lane) && b) (eq_sym a.offset x)

pending_left : (ps next : List (Option Arrival)) (p : Placing) → somes next ≡ filter (λ a. not (is_some_from (reverse_lane p.lane) p.ack_of a)) (somes ps) →
    map pending_ack (somes next) ≡ filter (λ a. not (is_pending_of (transmission_of p) a)) (map pending_ack (somes ps))
pending_left ps next p left =
    ap (map pending_ack) (left ∙ filter_same (λ a. not (is_some_from (reverse_lane p.lane) p.ack_of a)) (λ a. not (is_pending_of (transmission_of p) (pending_ack a))) (λ a. ap not (sent_is p.lane p.ack_of a)) (somes ps))
    ∙ sym (map_filter pending_ack (λ a. not (is_pending_of (transmission_of p) a)) (somes ps))

pub order_kept : (t : ℕ) (slots after : List (Option Held)) (ps next_ps : List (Option Arrival)) (ws next : List (Option Awaited)) (p : Placing) (w : Awaited) (h : Held) (acked : Bool) → transmission w ≡ transmission_of p →
    somes next ≡ filter (λ a. not (is_same w a)) (somes ws) → somes next_ps ≡ filter (λ a. not (is_some_from (reverse_lane p.lane) p.ack_of a)) (somes ps) → after ≡ slots ++ Some h ∷ [] → entry_at t h ≡ entry_of p → acked ≡ false →
    value_of t after next_ps next ≡ placed acked (value_of t slots ps ws) p
order_kept t slots after ps next_ps ws next p w h acked e left sent pushed is not_acked =
    let wins : entries_at t (somes after) ≡ entries_at t (somes slots) ++ entry_of p ∷ [] =
    ap (λ xs. entries_at t (somes xs)) pushed ∙ ap (λ hs. entries_at t hs) (somes_push slots h) ∙ map_append (entry_at t) (somes slots) h ∙ ap (λ (x : Entry). entries_at t (somes slots) ++ x ∷ []) is in
    let acks = pending_left ps next_ps p sent in
    let waits = awaited_left ws next w (transmission_of p) e left in
    let all : value_of t after next_ps next ≡ placed false (value_of t slots ps ws) p = λ i. record { window = wins i; pending_acks = acks i; awaiting = waits i } in
    all ∙ ap (λ (b : Bool). placed b (value_of t slots ps ws) p) (sym not_acked)

pub order_gone : (t : ℕ) (slots : List (Option Held)) (ps next_ps : List (Option Arrival)) (ws next : List (Option Awaited)) (p : Placing) (w : Awaited) (acked : Bool) → transmission w ≡ transmission_of p →
    somes next ≡ filter (λ a. not (is_same w a)) (somes ws) → somes next_ps ≡ filter (λ a. not (is_some_from (reverse_lane p.lane) p.ack_of a)) (somes ps) → acked ≡ true →
    value_of t slots next_ps next ≡ placed acked (value_of t slots ps ws) p
order_gone t slots ps next_ps ws next p w acked e left sent was_acked =
    let acks = pending_left ps next_ps p sent in
    let waits = awaited_left ws next w (transmission_of p) e left in
    let all : value_of t slots next_ps next ≡ placed true (value_of t slots ps ws) p = λ i. record { window = entries_at t (somes slots); pending_acks = acks i; awaiting = waits i } in
    all ∙ ap (λ (b : Bool). placed b (value_of t slots ps ws) p) (sym was_acked)

-- the frames stay valid

filter_no_more : {A : Type 0} (t : A → Bool) (xs : List A) → length (filter t xs) ≤ length xs
filter_no_more t [] = omega arith
filter_no_more {A} t (x ∷ xs) =
    let r = filter_no_more t xs in
    elim (t x) as (λ b. length (if b then x ∷ filter t xs else filter t xs) ≤ length (x ∷ xs)) [ true ↦ omega arith | false ↦ omega arith ]

filter_less : {A : Type 0} (t : A → Bool) (xs : List A) → list_any t xs ≡ true → length (filter (λ x. not (t x)) xs) + 1 ≤ length xs
filter_less t [] h = cc
filter_less {A} t (x ∷ xs) h =
    let r = filter_no_more (λ y. not (t y)) xs in
    elim (t x) as (λ b. (b || list_any t xs) ≡ true → length (if not b then x ∷ filter (λ y. not (t y)) xs else filter (λ y. not (t y)) xs) + 1 ≤ length (x ∷ xs)) [
      | true ↦ λ g. omega arith
      | false ↦ λ g. let s = filter_less t xs g in omega arith
    ] h

awaited_any : (ws : List (Option Awaited)) (w : Awaited) (t : Transmission) → transmission w ≡ t → list_any (transmission_eq t) (map transmission (somes ws)) ≡ true → list_any (is_same w) (somes ws) ≡ true
awaited_any ws w t e h = sym (any_map transmission (transmission_eq (transmission w)) (somes ws)) ∙ ap (λ (u : Transmission). list_any (transmission_eq u) (map transmission (somes ws))) e ∙ h

-- the list of awaited orders becomes shorter
pub fewer_awaited : (ws next : List (Option Awaited)) (w : Awaited) (t : Transmission) → transmission w ≡ t → list_any (transmission_eq t) (map transmission (somes ws)) ≡ true →
    somes next ≡ filter (λ a. not (is_same w a)) (somes ws) → length (somes next) + 1 ≤ length (somes ws)
fewer_awaited ws next w t e h left = let l = ap (λ xs. length xs) left in let f = filter_less (is_same w) (somes ws) (awaited_any ws w t e h) in omega arith

pub kept_window : (t : ℕ) (slots after : List (Option Held)) (ws next : List (Option Awaited)) (p : Placing) (h : Held) (spare now : ℕ) → IsWindow t (somes slots) (somes ws) spare → after ≡ slots ++ Some h ∷ [] →
    IsHeld t h → (h.lane ≡ p.lane) × (h.offset ≡ p.offset) → list_any (stands_at p) (entries_at t (somes slots)) ≡ false → length (somes next) + 1 ≤ length (somes ws) → spare ≤ now + 1 →
    IsWindow t (somes after) (somes next) now
kept_window t slots after ws next p h spare now is pushed held place free fewer room =
    let list = ap somes pushed ∙ somes_push slots h in
    let same : (k : Held) → stands_at p (entry_at t k) ≡ stand_together k h =
    λ k. ap (λ (l : Lane). lane_eq k.lane l && (k.offset == p.offset)) (sym place.0) ∙ ap (λ (x : ℕ). lane_eq k.lane h.lane && (k.offset == x)) (sym place.1) in
    let none : list_any (λ k. stand_together k h) (somes slots) ≡ false =
    sym (any_same (λ k. stands_at p (entry_at t k)) (λ k. stand_together k h) same (somes slots)) ∙ sym (any_map (entry_at t) (stands_at p) (somes slots)) ∙ free in
    record {
      held = subst (AreHeld t) (sym list) (held_push t (somes slots) h is.held held);
      apart = subst AreApart (sym list) (apart_push (somes slots) h is.apart none);
      room = let r = is.room in omega arith;
    }

pub gone_window : (t : ℕ) (hs : List Held) (ws next : List (Option Awaited)) (spare : ℕ) → IsWindow t hs (somes ws) spare → length (somes next) + 1 ≤ length (somes ws) → IsWindow t hs (somes next) spare
gone_window t hs ws next spare is fewer = record { held = is.held; apart = is.apart; room = let r = is.room in omega arith }

-- the placing of an order or a repeat

pub complete_is : (acked : List Name) (vol : Volatile) (p : Placing) → complete_one acked vol p ≡ (if p.fresh then order_placed (is_acked_item acked (transmission_of p).item) vol p else repeat_placed vol p)
unfolding complete_one
complete_is acked vol p = refl

pub was_placed : (acked : Bool) (vol : Volatile) (p : Placing) → list_any (transmission_eq (transmission_of p)) vol.awaiting ≡ true → list_any (stands_at p) vol.window ≡ false → placed acked vol p ≡ order_placed acked vol p
was_placed acked vol p a f =
    sym (ap (λ (b : Bool). if b && not (list_any (stands_at p) vol.window) then placed acked vol p else vol) a ∙ ap (λ (b : Bool). if not b then placed acked vol p else vol) f)

pub was_taken : (acked : Bool) (vol : Volatile) (p : Placing) → list_any (stands_at p) vol.window ≡ true → vol ≡ order_placed acked vol p
was_taken acked vol p f = sym (ap (λ (b : Bool). if list_any (transmission_eq (transmission_of p)) vol.awaiting && not b then placed acked vol p else vol) f ∙ by (list_any (transmission_eq (transmission_of p)) vol.awaiting))
  where
    by : (b : Bool) → (if b && false then placed acked vol p else vol) ≡ vol
    by true = refl
    by false = refl

pub was_unknown : (acked : Bool) (vol : Volatile) (p : Placing) → list_any (transmission_eq (transmission_of p)) vol.awaiting ≡ false → vol ≡ order_placed acked vol p
was_unknown acked vol p a = sym (ap (λ (b : Bool). if b && not (list_any (stands_at p) vol.window) then placed acked vol p else vol) a)

-- the next pending acknowledgement

shifted : {A : Type 0} (t : A → Bool) (y : A) (ys : List A) (from place : ℕ) → IsFirstFrom t (y ∷ ys) (suc from) (suc place) → IsFirstFrom t ys from place
shifted t y ys from place first = record {
  behind = let b = first.behind in omega arith;
  item = first.item;
  there = first.there;
  passes = first.passes;
  before = λ p x lt gt g. first.before (suc p) x (omega arith) (omega arith) g;
}

started : {A : Type 0} (t : A → Bool) (y : A) (ys : List A) (place : ℕ) → IsFirstFrom t (y ∷ ys) zero (suc place) → (t y ≡ false) × IsFirstFrom t ys zero place
started t y ys place first = (
  first.before 0 y (omega arith) (omega arith) refl,
  record {
    behind = omega arith;
    item = first.item;
    there = first.there;
    passes = first.passes;
    before = λ p x lt gt g. first.before (suc p) x (omega arith) (omega arith) g;
  },
)

skip : {A : Type 0} (t : A → Bool) (o : Option A) (xs : List (Option A)) → passes t o ≡ false → filter t (somes (o ∷ xs)) ≡ filter t (somes xs)
skip t None xs h = refl
skip {A} t (Some x) xs h = ap (λ (b : Bool). if b then x ∷ filter t (somes xs) else filter t (somes xs)) h

pub first_rest : {A : Type 0} (t : A → Bool) (xs : List (Option A)) (from place : ℕ) (x : A) → IsFirstFrom (passes t) xs from place → slice_get xs place ≡ Some (Some x) →
    filter t (somes (drop from xs)) ≡ x ∷ filter t (somes (drop (suc place) xs))
first_rest t [] from place x first there = cc
first_rest {A} t (y ∷ ys) zero zero x first there =
    let is : y ≡ Some x = cc in
    let item : Some first.item ≡ Some (Some x) = sym first.there ∙ there in
    let same : first.item ≡ Some x = cc in
    let hit : t x ≡ true = ap (passes t) (sym same) ∙ first.passes in
    ap (λ (o : Option A). filter t (somes (o ∷ ys))) is ∙ ap (λ (b : Bool). if b then x ∷ filter t (somes ys) else filter t (somes ys)) hit
first_rest t (y ∷ ys) zero (suc place) x first there =
    let s = started (passes t) y ys place first in
    skip t y ys s.0 ∙ first_rest t ys zero place x s.1 there
first_rest t (y ∷ ys) (suc from) zero x first there = absurd (let b = first.behind in omega arith)
first_rest t (y ∷ ys) (suc from) (suc place) x first there = first_rest t ys from place x (shifted (passes t) y ys from place first) there

pub none_rest : {A : Type 0} (t : A → Bool) (xs : List (Option A)) (from : ℕ) → IsNoneFrom (passes t) xs from → filter t (somes (drop from xs)) ≡ []
none_rest t [] zero none = refl
none_rest t [] (suc from) none = refl
none_rest t (y ∷ ys) zero none = skip t y ys (none.none 0 y (omega arith) refl) ∙ none_rest t ys zero (record { none = λ p x lt g. none.none (suc p) x (omega arith) g })
none_rest t (y ∷ ys) (suc from) none = none_rest t ys from (record { none = λ p x lt g. none.none (suc p) x (omega arith) g })

pub somes_mapped : {A B : Type 0} (f : A → B) (xs : List (Option A)) (from : ℕ) → somes (drop from (map (option_map f) xs)) ≡ map f (somes (drop from xs))
somes_mapped f [] zero = refl
somes_mapped f [] (suc from) = refl
somes_mapped f (None ∷ xs) zero = somes_mapped f xs zero
somes_mapped f (Some x ∷ xs) zero = ap (λ ys. f x ∷ ys) (somes_mapped f xs zero)
somes_mapped f (None ∷ xs) (suc from) = somes_mapped f xs from
somes_mapped f (Some x ∷ xs) (suc from) = somes_mapped f xs from

-- the pending acknowledgements of a lane, from a place on
pub pending_is : (l : Lane) (ps : List (Option Arrival)) (from : ℕ) → filter (λ a. lane_eq a.lane l) (somes (drop from (map (option_map pending_ack) ps))) ≡ map pending_ack (filter (is_from (Of l)) (somes (drop from ps)))
pending_is l ps from = ap (filter (λ a. lane_eq a.lane l)) (somes_mapped pending_ack ps from) ∙ map_filter pending_ack (λ a. lane_eq a.lane l) (somes (drop from ps))

way_from : (a b : Way) → way_eq a b ≡ true → a ≡ b
way_from Up Up h = refl
way_from Up Down h = cc
way_from Down Up h = cc
way_from Down Down h = refl

pub lane_from : (a b : Lane) → lane_eq a b ≡ true → a ≡ b
lane_from a b h =
    let link = eq_from a.link b.link (and_left (a.link == b.link) (way_eq a.way b.way) h) in
    let way = way_from a.way b.way (and_right (a.link == b.link) (way_eq a.way b.way) h) in
    λ i. record { link = link i; way = way i }

pub record IsThere (ps : List (Option Arrival)) (l : Lane) (place : ℕ) : Type 0 where
  pub arrival : Arrival
  pub there : slice_get ps place ≡ Some (Some arrival)
  pub brought : arrival.lane ≡ l

pub is_there : (l : Lane) (ps : List (Option Arrival)) (from place : ℕ) → IsFirstFrom (passes (is_from (Of l))) ps from place → IsThere ps l place
is_there l ps from place first = by first.item refl
  where
    by : (o : Option Arrival) → first.item ≡ o → IsThere ps l place
    by None e = let u : false ≡ true = ap (passes (is_from (Of l))) (sym e) ∙ first.passes in absurd (let z : ⊥ = cc in z)
    by (Some a) e = record { arrival = a; there = first.there ∙ ap Some e; brought = lane_from a.lane l (ap (passes (is_from (Of l))) (sym e) ∙ first.passes) }

-- the first pending acknowledgement of a lane from a place on, followed by the others
pub next_is : (l : Lane) (ps : List (Option Arrival)) (from place : ℕ) (r : Option Pending) → IsFirstFrom (passes (is_from (Of l))) ps from place → r ≡ pending_of place (slice_get ps place) →
    IfSome r (λ p. filter (λ a. lane_eq a.lane l) (somes (drop from (map (option_map pending_ack) ps))) ≡ record { lane = l; offset = p.offset; name = p.name }
    ∷ filter (λ a. lane_eq a.lane l) (somes (drop (p.place + 1) (map (option_map pending_ack) ps))))
next_is l ps from place r first e =
    let at = is_there l ps from place first in
    let a = at.arrival in
    let is : r ≡ Some (record { place = place; offset = a.offset; name = a.name }) = e ∙ ap (pending_of place) at.there in
    let next : suc place ≡ place + 1 = omega arith in
    subst (λ (o : Option Pending). IfSome o (λ p. filter (λ a. lane_eq a.lane l) (somes (drop from (map (option_map pending_ack) ps))) ≡ record { lane = l; offset = p.offset; name = p.name }
    ∷ filter (λ a. lane_eq a.lane l) (somes (drop (p.place + 1) (map (option_map pending_ack) ps))))) (sym is)
    (pending_is l ps from ∙ ap (map pending_ack) (first_rest (is_from (Of l)) ps from place a first at.there)
    ∙ ap (λ (k : Lane). let p : PendingAck = record { lane = k; offset = a.offset; name = a.name } in p ∷ map pending_ack (filter (is_from (Of l)) (somes (drop (suc place) ps)))) at.brought
    ∙ ap (λ (n : ℕ). let p : PendingAck = record { lane = l; offset = a.offset; name = a.name } in p ∷ map pending_ack (filter (is_from (Of l)) (somes (drop n ps)))) next
    ∙ ap (λ (xs : List PendingAck). let p : PendingAck = record { lane = l; offset = a.offset; name = a.name } in p ∷ xs) (sym (pending_is l ps (place + 1))))

pub next_place : (ps : List (Option Arrival)) (place : ℕ) (r : Option Pending) → r ≡ pending_of place (slice_get ps place) → place < 2 ^ 63 → IfSome r (λ p. p.place < 2 ^ 63)
next_place ps place r e lt = subst (λ (o : Option Pending). IfSome o (λ p. p.place < 2 ^ 63)) (sym e) (by (slice_get ps place))
  where
    by : (o : Option (Option Arrival)) → IfSome (pending_of place o) (λ p. p.place < 2 ^ 63)
    by None = tt
    by (Some None) = tt
    by (Some (Some a)) = lt

-- the slot that was found holds an acknowledgement
pub next_there : (l : Lane) (ps : List (Option Arrival)) (from place : ℕ) (r : Option Pending) (P : Type 0) → IsFirstFrom (passes (is_from (Of l))) ps from place → r ≡ pending_of place (slice_get ps place) → IfNone r P
next_there l ps from place r P first e =
    let at = is_there l ps from place first in
    subst (λ (o : Option Pending). IfNone o P) (sym (e ∙ ap (pending_of place) at.there)) tt
