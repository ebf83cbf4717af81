-- What the operations of a window do to its lists.
use Rattle.std.proofs.Common.{◌≡◌, ℕ, zero, suc, ◌+◌, ◌-◌, ◌<◌, ◌≤◌, Bool, true, false, ◌||◌, ◌&&◌, List, [], ◌∷◌, ◌++◌, length, take, replicate, refl, sym, ◌∙◌, ap, subst, arith, Option, Some, None, length-append}
use Rattle.std.specs.Prelude.{map, filter, ◌==◌, nat_le, not, is_some, is_none, if◌then◌else◌}
use Rattle.std.specs.List.{list_any}
use Rattle.std.proofs.lemmas.Bool.Decides.{nat_tests}
use Rattle.std.proofs.lemmas.List.Folds.{list_any-append}
use Rattle.qkd_base.specs.Lane.{lane_eq, reverse_lane}
use Rattle.qkd_base.specs.Name.{Name}
use Rattle.qkd_base.specs.declared.lane.Lane.{Lane}
use Rattle.qkd_base.specs.declared.frame_octets.FrameOctets.{FrameOctets}
use Rattle.net_model.specs.Item.{is_data_of}
use Rattle.net_model.specs.declared.order.Order.{Order}
use Rattle.net_model.specs.declared.repeat.Repeat.{Repeat}
use Rattle.net_model.specs.World.{Entry, PendingAck, Transmission, Volatile}
use Rattle.net_model.specs.Window.{acknowledge, answers_frame, mark_due, cleared, age}
use Rattle.kme_base.specs.Steps.{planned, repeated_by, transmission_of_order}
use Rattle.resend_window.specs.declared.held.Held.{Held}
use Rattle.resend_window.specs.declared.arrival.Arrival.{Arrival}
use Rattle.resend_window.specs.declared.arrival.Arrivals.TheVariants.{From}
use Rattle.resend_window.specs.declared.awaited.Awaited.{Awaited}
use Rattle.resend_window.specs.declared.edit.Query.{Query}
use Rattle.resend_window.specs.declared.edit.Query.TheVariants.{At, Answering, DataOf}
use Rattle.resend_window.specs.declared.edit.Edit.{Edit}
use Rattle.resend_window.specs.declared.edit.Edit.TheVariants.{MarkDue, Renew, Renumber, Remove}
use Rattle.resend_window.specs.Kept.{somes}
use Rattle.resend_window.specs.Held.{entry_at, entries_at, pending_ack, transmission, IsHeld, AreHeld, AreApart, stand_together}
use Rattle.resend_window.specs.Slots.{is_asked, edited, removed}
use Rattle.resend_window.specs.Lists.{is_from, IsWindow, is_repeated, renewed_by, ripened_at, value_of}
use Rattle.resend_window.proofs.Ready.{entries_ripened, ripened_apart, planned_held}
use Rattle.resend_window.proofs.Lists.{somes_changed, somes_removed, somes_push, map_filter, map_append, length_map, map_map, map_same, any_map, any_same}

-- valid frames stay valid under a change

pub held_map : (t u : ℕ) (g : Held → Held) → ((h : Held) → IsHeld t h → IsHeld u (g h)) → (hs : List Held) → AreHeld t hs → AreHeld u (map g hs)
held_map t u g kept [] are = tt
held_map t u g kept (h ∷ hs) are = (kept h are.0, held_map t u g kept hs are.1)

pub apart_map : (g : Held → Held) → ((h k : Held) → stand_together (g h) (g k) ≡ stand_together h k) → (hs : List Held) → AreApart hs → AreApart (map g hs)
apart_map g same [] are = tt
apart_map g same (h ∷ hs) are = (
  any_map g (stand_together (g h)) hs ∙ any_same (λ k. stand_together (g h) (g k)) (stand_together h) (same h) hs ∙ are.0,
  apart_map g same hs are.1,
)

any_filter : {A : Type 0} (t u : A → Bool) (xs : List A) → list_any t xs ≡ false → list_any t (filter u xs) ≡ false
any_filter t u [] h = refl
any_filter {A} t u (x ∷ xs) h =
    elim (u x) as (λ b. list_any t (if b then x ∷ filter u xs else filter u xs) ≡ false) [
      | true ↦ ap (λ (b : Bool). b || list_any t (filter u xs)) (or_first (t x) (list_any t xs) h) ∙ any_filter t u xs (or_second (t x) (list_any t xs) h)
      | false ↦ any_filter t u xs (or_second (t x) (list_any t xs) h)
    ]
  where
    or_first : (a b : Bool) → (a || b) ≡ false → a ≡ false
    or_first true b e = e
    or_first false b e = refl

    or_second : (a b : Bool) → (a || b) ≡ false → b ≡ false
    or_second true b e = cc
    or_second false b e = e

pub held_filter : (t : ℕ) (u : Held → Bool) (hs : List Held) → AreHeld t hs → AreHeld t (filter u hs)
held_filter t u [] are = tt
held_filter t u (h ∷ hs) are = elim (u h) as (λ b. AreHeld t (if b then h ∷ filter u hs else filter u hs)) [ true ↦ (are.0, held_filter t u hs are.1) | false ↦ held_filter t u hs are.1 ]

pub apart_filter : (u : Held → Bool) (hs : List Held) → AreApart hs → AreApart (filter u hs)
apart_filter u [] are = tt
apart_filter u (h ∷ hs) are = elim (u h) as (λ b. AreApart (if b then h ∷ filter u hs else filter u hs)) [
  | true ↦ (any_filter (stand_together h) u hs are.0, apart_filter u hs are.1)
  | false ↦ apart_filter u hs are.1
]

pub held_push : (t : ℕ) (hs : List Held) (h : Held) → AreHeld t hs → IsHeld t h → AreHeld t (hs ++ h ∷ [])
held_push t [] h are is = (is, tt)
held_push t (k ∷ hs) h are is = (are.0, held_push t hs h are.1 is)

pub apart_push : (hs : List Held) (h : Held) → AreApart hs → list_any (λ k. stand_together k h) hs ≡ false → AreApart (hs ++ h ∷ [])
apart_push [] h are none = (refl, tt)
apart_push (k ∷ hs) h are none = (
  list_any-append (stand_together k) hs (h ∷ []) ∙ both (list_any (stand_together k) hs) (stand_together k h) are.0 (or_first (stand_together k h) (list_any (λ k. stand_together k h) hs) none),
  apart_push hs h are.1 (or_second (stand_together k h) (list_any (λ k. stand_together k h) hs) none),
)
  where
    or_first : (a b : Bool) → (a || b) ≡ false → a ≡ false
    or_first true b e = e
    or_first false b e = refl

    or_second : (a b : Bool) → (a || b) ≡ false → b ≡ false
    or_second true b e = cc
    or_second false b e = e

    both : (a b : Bool) → a ≡ false → b ≡ false → (a || (b || false)) ≡ false
    both true b e f = e
    both false true e f = f
    both false false e f = refl

-- a single change of frames keeps the window's invariant

pub marked : Query → Held → Held
marked q h = if is_asked q h then record h { due = true } else h

pub numbered : Query → ℕ → Held → Held
numbered q n h = if is_asked q h then record h { number = Some n } else h

somes_marked : (q : Query) (slots : List (Option Held)) → somes (map (edited q MarkDue) slots) ≡ map (marked q) (somes slots)
unfolding marked
somes_marked q slots = somes_changed (is_asked q) (λ h. record h { due = true }) (edited q MarkDue) refl (λ h. refl) slots

somes_numbered : (q : Query) (n : ℕ) (slots : List (Option Held)) → somes (map (edited q (Renumber n)) slots) ≡ map (numbered q n) (somes slots)
unfolding numbered
somes_numbered q n slots = somes_changed (is_asked q) (λ h. record h { number = Some n }) (edited q (Renumber n)) refl (λ h. refl) slots

somes_left : (q : Query) (slots : List (Option Held)) → somes (map (removed (is_asked q)) slots) ≡ filter (λ h. not (is_asked q h)) (somes slots)
somes_left q slots = somes_removed (is_asked q) (removed (is_asked q)) refl (λ h. refl) slots

marked_held : (t : ℕ) (q : Query) (h : Held) → IsHeld t h → IsHeld t (marked q h)
unfolding marked
marked_held t q h is = elim (is_asked q h) as (λ b. IsHeld t (if b then record h { due = true } else h)) [ true ↦ record { sent = is.sent; size = is.size; clean = is.clean; ripe = is.ripe; place = is.place } | false ↦ is ]

numbered_held : (t : ℕ) (q : Query) (n : ℕ) (h : Held) → IsHeld t h → IsHeld t (numbered q n h)
unfolding numbered
numbered_held t q n h is = elim (is_asked q h) as (λ b. IsHeld t (if b then record h { number = Some n } else h)) [ true ↦ record { sent = is.sent; size = is.size; clean = is.clean; ripe = is.ripe; place = is.place } | false ↦ is ]

marked_apart : (q : Query) (h k : Held) → stand_together (marked q h) (marked q k) ≡ stand_together h k
unfolding marked
marked_apart q h k = elim (is_asked q h) as (λ a. stand_together (if a then record h { due = true } else h) (if is_asked q k then record k { due = true } else k) ≡ stand_together h k) [
  | true ↦ elim (is_asked q k) as (λ b. stand_together (record h { due = true }) (if b then record k { due = true } else k) ≡ stand_together h k) [ true ↦ refl | false ↦ refl ]
  | false ↦ elim (is_asked q k) as (λ b. stand_together h (if b then record k { due = true } else k) ≡ stand_together h k) [ true ↦ refl | false ↦ refl ]
]

numbered_apart : (q : Query) (n : ℕ) (h k : Held) → stand_together (numbered q n h) (numbered q n k) ≡ stand_together h k
unfolding numbered
numbered_apart q n h k = elim (is_asked q h) as (λ a. stand_together (if a then record h { number = Some n } else h) (if is_asked q k then record k { number = Some n } else k) ≡ stand_together h k) [
  | true ↦ elim (is_asked q k) as (λ b. stand_together (record h { number = Some n }) (if b then record k { number = Some n } else k) ≡ stand_together h k) [ true ↦ refl | false ↦ refl ]
  | false ↦ elim (is_asked q k) as (λ b. stand_together h (if b then record k { number = Some n } else k) ≡ stand_together h k) [ true ↦ refl | false ↦ refl ]
]

pub marked_window : (t : ℕ) (slots after : List (Option Held)) (ws : List Awaited) (spare now : ℕ) (q : Query) → IsWindow t (somes slots) ws spare → after ≡ map (edited q MarkDue) slots → now ≡ spare →
    IsWindow t (somes after) ws now
marked_window t slots after ws spare now q is e s =
    let list = ap somes e ∙ somes_marked q slots in
    record {
      held = subst (AreHeld t) (sym list) (held_map t t (marked q) (marked_held t q) (somes slots) is.held);
      apart = subst AreApart (sym list) (apart_map (marked q) (marked_apart q) (somes slots) is.apart);
      room = let r = is.room in omega arith;
    }

pub numbered_window : (t : ℕ) (slots after : List (Option Held)) (ws : List Awaited) (spare now : ℕ) (q : Query) (n : ℕ) → IsWindow t (somes slots) ws spare → after ≡ map (edited q (Renumber n)) slots → now ≡ spare →
    IsWindow t (somes after) ws now
numbered_window t slots after ws spare now q n is e s =
    let list = ap somes e ∙ somes_numbered q n slots in
    record {
      held = subst (AreHeld t) (sym list) (held_map t t (numbered q n) (numbered_held t q n) (somes slots) is.held);
      apart = subst AreApart (sym list) (apart_map (numbered q n) (numbered_apart q n) (somes slots) is.apart);
      room = let r = is.room in omega arith;
    }

pub left_window : (t : ℕ) (slots after : List (Option Held)) (ws : List Awaited) (spare now : ℕ) (q : Query) → IsWindow t (somes slots) ws spare → after ≡ map (removed (is_asked q)) slots → now ≡ spare →
    IsWindow t (somes after) ws now
left_window t slots after ws spare now q is e s =
    let list = ap somes e ∙ somes_left q slots in
    record {
      held = subst (AreHeld t) (sym list) (held_filter t (λ h. not (is_asked q h)) (somes slots) is.held);
      apart = subst AreApart (sym list) (apart_filter (λ h. not (is_asked q h)) (somes slots) is.apart);
      room = let r = is.room in omega arith;
    }

-- sending the acknowledgement of a received frame

any_answers : (t : ℕ) (hs : List Held) (l : Lane) (x : ℕ) → list_any (λ e. answers_frame l x e.transmission) (entries_at t hs) ≡ list_any (is_asked (Answering (reverse_lane l) x)) hs
any_answers t hs l x = any_map (entry_at t) (λ e. answers_frame l x e.transmission) hs

any_pending : (ws : List Arrival) (l : Lane) (x : ℕ) → list_any (λ a. lane_eq a.lane l && (a.offset == x)) (map pending_ack ws) ≡ list_any (is_from (From l x)) ws
any_pending ws l x = any_map pending_ack (λ a. lane_eq a.lane l && (a.offset == x)) ws

entries_marked : (t : ℕ) (hs : List Held) (l : Lane) (x : ℕ) → entries_at t (map (marked (Answering (reverse_lane l) x)) hs) ≡ map (mark_due l x) (entries_at t hs)
unfolding marked
entries_marked t hs l x =
    map_map (marked (Answering (reverse_lane l) x)) (entry_at t) hs
    ∙ map_same (λ h. entry_at t (marked (Answering (reverse_lane l) x) h)) (λ h. mark_due l x (entry_at t h)) one hs
    ∙ sym (map_map (entry_at t) (mark_due l x) hs)
  where
    one : (h : Held) → entry_at t (if is_asked (Answering (reverse_lane l) x) h then record h { due = true } else h) ≡ mark_due l x (entry_at t h)
    one h = elim (is_asked (Answering (reverse_lane l) x) h) as (λ b. entry_at t (if b then record h { due = true } else h) ≡ (if b then record (entry_at t h) { due = true } else entry_at t h)) [ true ↦ refl | false ↦ refl ]

pub received_sent : (t : ℕ) (slots after : List (Option Held)) (ps : List (Option Arrival)) (ws : List (Option Awaited)) (l : Lane) (x : ℕ) (n : Name) →
    list_any (is_asked (Answering (reverse_lane l) x)) (somes slots) ≡ true → after ≡ map (edited (Answering (reverse_lane l) x) MarkDue) slots →
    value_of t after ps ws ≡ acknowledge (value_of t slots ps ws) l x n
unfolding acknowledge
received_sent t slots after ps ws l x n h e =
    ap (λ w. record { window = w; pending_acks = map pending_ack (somes ps); awaiting = map transmission (somes ws) })
    (ap (λ hs. entries_at t hs) (ap somes e ∙ somes_marked (Answering (reverse_lane l) x) slots) ∙ entries_marked t (somes slots) l x)
    ∙ sym (ap (λ (b : Bool). if b then record (value_of t slots ps ws) { window = map (mark_due l x) (entries_at t (somes slots)) }
    else if list_any (λ a. lane_eq a.lane l && (a.offset == x)) (map pending_ack (somes ps)) then value_of t slots ps ws
    else record (value_of t slots ps ws) { pending_acks = map pending_ack (somes ps) ++ record { lane = l; offset = x; name = n } ∷ [] }) (any_answers t (somes slots) l x ∙ h))

pub received_pending : (t : ℕ) (slots : List (Option Held)) (ps : List (Option Arrival)) (ws : List (Option Awaited)) (l : Lane) (x : ℕ) (n : Name) →
    list_any (is_asked (Answering (reverse_lane l) x)) (somes slots) ≡ false → list_any (is_from (From l x)) (somes ps) ≡ true →
    value_of t slots ps ws ≡ acknowledge (value_of t slots ps ws) l x n
unfolding acknowledge
received_pending t slots ps ws l x n h k =
    sym (ap (λ (b : Bool). if b then record (value_of t slots ps ws) { window = map (mark_due l x) (entries_at t (somes slots)) }
    else if list_any (λ a. lane_eq a.lane l && (a.offset == x)) (map pending_ack (somes ps)) then value_of t slots ps ws
    else record (value_of t slots ps ws) { pending_acks = map pending_ack (somes ps) ++ record { lane = l; offset = x; name = n } ∷ [] }) (any_answers t (somes slots) l x ∙ h)
    ∙ ap (λ (b : Bool). if b then value_of t slots ps ws
    else record (value_of t slots ps ws) { pending_acks = map pending_ack (somes ps) ++ record { lane = l; offset = x; name = n } ∷ [] }) (any_pending (somes ps) l x ∙ k))

pub received_new : (t : ℕ) (slots : List (Option Held)) (ps after : List (Option Arrival)) (ws : List (Option Awaited)) (a : Arrival) →
    list_any (is_asked (Answering (reverse_lane a.lane) a.offset)) (somes slots) ≡ false → list_any (is_from (From a.lane a.offset)) (somes ps) ≡ false → after ≡ ps ++ Some a ∷ [] →
    value_of t slots after ws ≡ acknowledge (value_of t slots ps ws) a.lane a.offset a.name
unfolding acknowledge
received_new t slots ps after ws a h k e =
    ap (λ p. record { window = entries_at t (somes slots); pending_acks = p; awaiting = map transmission (somes ws) }) (ap (λ xs. map pending_ack (somes xs)) e ∙ ap (map pending_ack) (somes_push ps a) ∙ map_append pending_ack (somes ps) a)
    ∙ sym (ap (λ (b : Bool). if b then record (value_of t slots ps ws) { window = map (mark_due a.lane a.offset) (entries_at t (somes slots)) }
    else if list_any (λ b. lane_eq b.lane a.lane && (b.offset == a.offset)) (map pending_ack (somes ps)) then value_of t slots ps ws
    else record (value_of t slots ps ws) { pending_acks = map pending_ack (somes ps) ++ record { lane = a.lane; offset = a.offset; name = a.name } ∷ [] }) (any_answers t (somes slots) a.lane a.offset ∙ h)
    ∙ ap (λ (b : Bool). if b then value_of t slots ps ws
    else record (value_of t slots ps ws) { pending_acks = map pending_ack (somes ps) ++ record { lane = a.lane; offset = a.offset; name = a.name } ∷ [] }) (any_pending (somes ps) a.lane a.offset ∙ k))

-- receiving an acknowledgement

pub acknowledged_left : (t : ℕ) (slots after : List (Option Held)) (ps : List (Option Arrival)) (ws : List (Option Awaited)) (l : Lane) (n : Name) → after ≡ map (removed (is_asked (DataOf (reverse_lane l) n))) slots →
    value_of t after ps ws ≡ record (value_of t slots ps ws) { window = cleared l n (entries_at t (somes slots)) }
acknowledged_left t slots after ps ws l n e =
    ap (λ w. record { window = w; pending_acks = map pending_ack (somes ps); awaiting = map transmission (somes ws) })
    (ap (λ hs. entries_at t hs) (ap somes e ∙ somes_left (DataOf (reverse_lane l) n) slots)
    ∙ sym (map_filter (entry_at t) (λ (e : Entry). not (lane_eq e.transmission.lane (reverse_lane l) && is_data_of n e.transmission.item)) (somes slots)))

-- making a plan

due_yet : (d : Bool) (m : ℕ) → (d || nat_le 4 (m + 1)) ≡ ((d || nat_le 4 m) || nat_le 4 (m + 1))
due_yet true m = refl
due_yet false m = grind (arith, nat_tests)

aged : (t : ℕ) (rs : List Repeat) (l : Lane) (x : ℕ) (n : Name) (o number : Option ℕ) (sent : ℕ) (d r : Bool) (size : ℕ) (f : FrameOctets) → sent ≤ t →
    (let h : Held = record { lane = l; offset = x; name = n; ack_of = o; number = number; sent = sent; due = d; ripe = r; length = size; frame = f } in entry_at (t + 1) (renewed_by (t + 1) rs h) ≡ repeated_by rs (age (entry_at t h)))
aged t rs l x n None number sent d r size f s =
    let h : Held = record { lane = l; offset = x; name = n; ack_of = None; number = number; sent = sent; due = d; ripe = r; length = size; frame = f } in
    let e : Entry = age (entry_at t h) in
    let none : (t + 1) - (t + 1) ≡ 0 = omega arith in
    let more : (t + 1) - sent ≡ (t - sent) + 1 = omega arith in
    elim (is_repeated rs h) as (λ b. entry_at (t + 1) (if b then record h { sent = t + 1; due = false; ripe = false } else h) ≡ (if b then record e { age = 0; due = false } else e)) [
      | true ↦ ap (λ (k : ℕ). record e { age = k; due = nat_le 4 k }) none
      | false ↦ ap (λ (k : ℕ). record e { age = k; due = d || nat_le 4 k }) more ∙ ap (λ (b : Bool). record e { age = (t - sent) + 1; due = b }) (due_yet d (t - sent))
    ]
aged t rs l x n (Some y) number sent d r size f s =
    let h : Held = record { lane = l; offset = x; name = n; ack_of = Some y; number = number; sent = sent; due = d; ripe = r; length = size; frame = f } in
    let e : Entry = age (entry_at t h) in
    elim (is_repeated rs h) as (λ b. entry_at (t + 1) (if b then record h { sent = t + 1; due = false; ripe = false } else h) ≡ (if b then record e { age = 0; due = false } else e)) [ true ↦ refl | false ↦ refl ]

pub entry_aged : (t : ℕ) (rs : List Repeat) (h : Held) → h.sent ≤ t → entry_at (t + 1) (renewed_by (t + 1) rs h) ≡ repeated_by rs (age (entry_at t h))
entry_aged t rs h s = aged t rs h.lane h.offset h.name h.ack_of h.number h.sent h.due h.ripe h.length h.frame s

entries_aged : (t : ℕ) (rs : List Repeat) (hs : List Held) → AreHeld t hs → entries_at (t + 1) (map (renewed_by (t + 1) rs) hs) ≡ map (repeated_by rs) (map age (entries_at t hs))
entries_aged t rs [] held = refl
entries_aged t rs (h ∷ hs) held =
    ap (λ (e : Entry). e ∷ entries_at (t + 1) (map (renewed_by (t + 1) rs) hs)) (entry_aged t rs h held.0.sent)
    ∙ ap (λ (es : List Entry). repeated_by rs (age (entry_at t h)) ∷ es) (entries_aged t rs hs held.1)

pub planned_value : (t : ℕ) (slots after : List (Option Held)) (ps : List (Option Arrival)) (ws next : List (Option Awaited)) (orders : List Order) (rs : List Repeat) → AreHeld t (somes slots) →
    somes after ≡ map (ripened_at (t + 1)) (map (renewed_by (t + 1) rs) (somes slots)) → map transmission (somes next) ≡ map transmission (somes ws) ++ map transmission_of_order orders →
    value_of (t + 1) after ps next ≡ planned orders rs (value_of t slots ps ws)
planned_value t slots after ps ws next orders rs held e w =
    ap (λ (es : List Entry). record { window = es; pending_acks = map pending_ack (somes ps); awaiting = map transmission (somes next) }) (ap (λ hs. entries_at (t + 1) hs) e ∙ entries_ripened (t + 1) (t + 1) (map (renewed_by (t + 1) rs) (somes slots)) ∙ entries_aged t rs (somes slots) held)
    ∙ ap (λ (ts : List Transmission). record { window = map (repeated_by rs) (map age (entries_at t (somes slots))); pending_acks = map pending_ack (somes ps); awaiting = ts }) w

renewed_apart : (t : ℕ) (rs : List Repeat) (h k : Held) → stand_together (renewed_by t rs h) (renewed_by t rs k) ≡ stand_together h k
renewed_apart t rs h k = elim (is_repeated rs h) as (λ a. stand_together (if a then record h { sent = t; due = false; ripe = false } else h) (renewed_by t rs k) ≡ stand_together h k) [
  | true ↦ elim (is_repeated rs k) as (λ b. stand_together (record h { sent = t; due = false; ripe = false }) (if b then record k { sent = t; due = false; ripe = false } else k) ≡ stand_together h k) [ true ↦ refl | false ↦ refl ]
  | false ↦ elim (is_repeated rs k) as (λ b. stand_together h (if b then record k { sent = t; due = false; ripe = false } else k) ≡ stand_together h k) [ true ↦ refl | false ↦ refl ]
]

pub planned_window : (t : ℕ) (slots after : List (Option Held)) (ws next : List (Option Awaited)) (orders : List Order) (rs : List Repeat) (spare now : ℕ) → IsWindow t (somes slots) (somes ws) spare →
    somes after ≡ map (ripened_at (t + 1)) (map (renewed_by (t + 1) rs) (somes slots)) → map transmission (somes next) ≡ map transmission (somes ws) ++ map transmission_of_order orders → now ≡ spare → length orders ≤ spare - length (somes ws) →
    IsWindow (t + 1) (somes after) (somes next) now
planned_window t slots after ws next orders rs spare now is e w s room = record {
  held = subst (AreHeld (t + 1)) (sym (e ∙ map_map (renewed_by (t + 1) rs) (ripened_at (t + 1)) (somes slots))) (held_map t (t + 1) (λ h. ripened_at (t + 1) (renewed_by (t + 1) rs h)) (planned_held t rs) (somes slots) is.held);
  apart = subst AreApart (sym e) (apart_map (ripened_at (t + 1)) (ripened_apart (t + 1)) (map (renewed_by (t + 1) rs) (somes slots)) (apart_map (renewed_by (t + 1) rs) (renewed_apart (t + 1) rs) (somes slots) is.apart));
  room =
      let r = is.room in
      let a = length_map transmission (somes next) in
      let b = length_map transmission (somes ws) in
      let d = length_map transmission_of_order orders in
      let l = ap (λ (ts : List Transmission). length ts) w ∙ length-append (map transmission (somes ws)) (map transmission_of_order orders) in
      omega arith;
}

-- all frames are one tick older
pub entries_older : (t : ℕ) (hs : List Held) → AreHeld t hs → entries_at (t + 1) hs ≡ map age (entries_at t hs)
entries_older t [] held = refl
entries_older t (h ∷ hs) held =
    ap (λ (e : Entry). e ∷ entries_at (t + 1) hs) (entry_aged t [] h held.0.sent) ∙ ap (λ (es : List Entry). age (entry_at t h) ∷ es) (entries_older t hs held.1)
