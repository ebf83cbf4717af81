-- Frames that are due by their age at the next plan, and the least offset of those that are sent again.
use Rattle.std.proofs.Common.{◌≡◌, ℕ, zero, suc, ◌+◌, ◌-◌, ◌<◌, ◌≤◌, ◌^◌, Bool, true, false, ◌||◌, ◌&&◌, List, [], ◌∷◌, length, take, refl, sym, ◌∙◌, ap, subst, arith, Option, Some, None}
use Rattle.std.specs.Prelude.{map, slice_get, ◌==◌, nat_lt, nat_le, is_none, if◌then◌else◌}
use Rattle.std.specs.List.{list_any}
use Rattle.std.proofs.lemmas.Bool.Decides.{nat_tests}
use Rattle.qkd_base.specs.Lane.{lane_eq}
use Rattle.qkd_base.specs.declared.lane.Lane.{Lane}
use Rattle.net_model.specs.declared.repeat.Repeat.{Repeat}
use Rattle.net_model.specs.World.{Entry}
use Rattle.net_model.specs.Window.{room_octets}
use Rattle.ordered_set.specs.Entries.{has_entry}
use Rattle.relay_core.proofs.Firsts.{any_at, not_true}
use Rattle.relay_core.proofs.Kept.{any_somewhere}
use Rattle.relay_core.proofs.Names.{eq_same, eq_from, and_left, and_right}
use Rattle.resend_window.specs.declared.held.Held.{Held}
use Rattle.resend_window.specs.Kept.{somes}
use Rattle.resend_window.specs.Held.{entry_at, entries_at, is_ready, is_next_on, stand_together, IsHeld, AreHeld}
use Rattle.resend_window.specs.Lists.{is_repeated, renewed_by, ripened_at, IsLeast}
use Rattle.resend_window.specs.Repeating.{is_above, goes_after}
use Rattle.resend_window.specs.Dues.{stands, goes_at, due_entry, AreDues, IsNextDue, IsLastDue}

both_true : (a b : Bool) → a ≡ true → b ≡ true → (a && b) ≡ true
both_true true b h k = k
both_true false b h k = cc

held_got : (t : ℕ) (hs : List Held) (p : ℕ) (h : Held) → AreHeld t hs → slice_get hs p ≡ Some h → IsHeld t h
held_got t [] p h are there = cc
held_got t (k ∷ hs) zero h are there = let same : k ≡ h = cc in subst (IsHeld t) same are.0
held_got t (k ∷ hs) (suc p) h are there = held_got t hs p h are.1 there

-- a valid frame is due at the next tick exactly if it is ready
next_is : (t : ℕ) (l : Lane) (h : Held) → IsHeld t h → is_next_on (t + 1) l h ≡ (lane_eq h.lane l && is_ready h)
next_is t l h is = ap (λ (b : Bool). lane_eq h.lane l && (h.due || b)) (sym is.ripe)

less_from : (a b : ℕ) → nat_lt a b ≡ true → a < b
less_from a b h = grind (arith, nat_tests)

goes_here : (t : ℕ) (l : Lane) (after : Option ℕ) (h : Held) → IsHeld t h → goes_after (t + 1) l after h ≡ true → goes_at l h.offset h ≡ true
goes_here t l after h is goes =
    let ready = sym (next_is t l h is) ∙ and_left (is_next_on (t + 1) l h) (is_above after h.offset) goes in
    both_true (stands l h.offset h) (is_ready h) (both_true (lane_eq h.lane l) (h.offset == h.offset) (and_left (lane_eq h.lane l) (is_ready h) ready) (eq_same h.offset)) (and_right (lane_eq h.lane l) (is_ready h) ready)

-- the least offset in the set is the least of the frames that are due
pub least_due : (t : ℕ) (l : Lane) (after : Option ℕ) (slots : List (Option Held)) (es : List (List ℕ)) (x : ℕ) → AreHeld t (somes slots) → AreDues slots es → IsNextDue es l after x →
    IsLeast (goes_after (t + 1) l after) (somes slots) (Some x)
least_due t l after slots es x are dues next = (there, first)
  where
    there : list_any (λ h. goes_after (t + 1) l after h && (h.offset == x)) (somes slots) ≡ true
    there =
        let k = any_somewhere (goes_at l x) (somes slots) (sym (dues.has l x) ∙ next.there) in
        let is = held_got t (somes slots) k.place k.item are k.there in
        let here = and_left (stands l x k.item) (is_ready k.item) k.passes in
        let at = and_right (lane_eq k.item.lane l) (k.item.offset == x) here in
        let goes = next_is t l k.item is ∙ both_true (lane_eq k.item.lane l) (is_ready k.item) (and_left (lane_eq k.item.lane l) (k.item.offset == x) here) (and_right (stands l x k.item) (is_ready k.item) k.passes) in
        any_at (λ h. goes_after (t + 1) l after h && (h.offset == x)) (somes slots) k.place k.item k.there
        (both_true (goes_after (t + 1) l after k.item) (k.item.offset == x)
        (both_true (is_next_on (t + 1) l k.item) (is_above after k.item.offset) goes (ap (is_above after) (eq_from k.item.offset x at) ∙ next.above)) at)

    first : list_any (λ h. goes_after (t + 1) l after h && nat_lt h.offset x) (somes slots) ≡ false
    first = not_true (list_any (λ h. goes_after (t + 1) l after h && nat_lt h.offset x) (somes slots)) (λ any.
        let k = any_somewhere (λ h. goes_after (t + 1) l after h && nat_lt h.offset x) (somes slots) any in
        let is = held_got t (somes slots) k.place k.item are k.there in
        let goes = and_left (goes_after (t + 1) l after k.item) (nat_lt k.item.offset x) k.passes in
        let none = next.first k.item.offset (and_right (is_next_on (t + 1) l k.item) (is_above after k.item.offset) goes) (less_from k.item.offset x (and_right (goes_after (t + 1) l after k.item) (nat_lt k.item.offset x) k.passes)) in
        let some = dues.has l k.item.offset ∙ any_at (goes_at l k.item.offset) (somes slots) k.place k.item k.there (goes_here t l after k.item is goes) in
        let u : true ≡ false = sym some ∙ none in
        let z : ⊥ = cc in z)

-- if the set has no offset above `after`, no frame above it is due
pub none_due : (t : ℕ) (l : Lane) (after : Option ℕ) (slots : List (Option Held)) (es : List (List ℕ)) → AreHeld t (somes slots) → AreDues slots es → IsLastDue es l after →
    list_any (goes_after (t + 1) l after) (somes slots) ≡ false
none_due t l after slots es are dues last = not_true (list_any (goes_after (t + 1) l after) (somes slots)) (λ any.
    let k = any_somewhere (goes_after (t + 1) l after) (somes slots) any in
    let is = held_got t (somes slots) k.place k.item are k.there in
    let none = last k.item.offset (and_right (is_next_on (t + 1) l k.item) (is_above after k.item.offset) k.passes) is.place in
    let some = dues.has l k.item.offset ∙ any_at (goes_at l k.item.offset) (somes slots) k.place k.item k.there (goes_here t l after k.item is k.passes) in
    let u : true ≡ false = sym some ∙ none in
    let z : ⊥ = cc in z)

-- the frames that become ripe at a tick

ripened_entry : (t u : ℕ) (h : Held) → entry_at t (ripened_at u h) ≡ entry_at t h
ripened_entry t u h = elim (is_none h.ack_of && (h.sent + 3 == u)) as (λ b. entry_at t (if b then record h { ripe = true } else h) ≡ entry_at t h) [ true ↦ refl | false ↦ refl ]

pub entries_ripened : (t u : ℕ) (hs : List Held) → entries_at t (map (ripened_at u) hs) ≡ entries_at t hs
entries_ripened t u [] = refl
entries_ripened t u (h ∷ hs) = ap (λ (e : Entry). e ∷ entries_at t (map (ripened_at u) hs)) (ripened_entry t u h) ∙ ap (λ (es : List Entry). entry_at t h ∷ es) (entries_ripened t u hs)

pub ripened_apart : (u : ℕ) (h k : Held) → stand_together (ripened_at u h) (ripened_at u k) ≡ stand_together h k
ripened_apart u h k = elim (is_none h.ack_of && (h.sent + 3 == u)) as (λ a. stand_together (if a then record h { ripe = true } else h) (ripened_at u k) ≡ stand_together h k) [
  | true ↦ elim (is_none k.ack_of && (k.sent + 3 == u)) as (λ b. stand_together (record h { ripe = true }) (if b then record k { ripe = true } else k) ≡ stand_together h k) [ true ↦ refl | false ↦ refl ]
  | false ↦ elim (is_none k.ack_of && (k.sent + 3 == u)) as (λ b. stand_together h (if b then record k { ripe = true } else k) ≡ stand_together h k) [ true ↦ refl | false ↦ refl ]
]

-- a frame is valid, except that it may still have to be marked as ripe
pub record IsHeldBefore (now : ℕ) (h : Held) : Type 0 where
  pub sent : h.sent ≤ now
  pub size : length (take h.length h.frame.octets) ≡ h.length
  pub clean : h.frame ≡ room_octets (take h.length h.frame.octets)
  pub ripe : h.ripe ≡ (is_none h.ack_of && nat_le 5 ((now + 1) - h.sent))
  pub place : h.offset < 2 ^ 64

four_from : (s u : ℕ) → (s + 3 == u) ≡ true → true ≡ nat_le 4 ((u + 1) - s)
four_from s u h = grind (arith, nat_tests)

four_else : (s u : ℕ) → (s + 3 == u) ≡ false → nat_le 5 ((u + 1) - s) ≡ nat_le 4 ((u + 1) - s)
four_else s u h = grind (arith, nat_tests)

ripe_now : (u : ℕ) (h : Held) → IsHeldBefore u h → (ripened_at u h).ripe ≡ (is_none h.ack_of && nat_le 4 ((u + 1) - h.sent))
ripe_now u h is = by h.ack_of refl
  where
    asked : (b : Bool) → (h.sent + 3 == u) ≡ b → h.ripe ≡ nat_le 5 ((u + 1) - h.sent) → (if b then record h { ripe = true } else h).ripe ≡ nat_le 4 ((u + 1) - h.sent)
    asked true e r = four_from h.sent u e
    asked false e r = r ∙ four_else h.sent u e

    by : (o : Option ℕ) → h.ack_of ≡ o → (ripened_at u h).ripe ≡ (is_none h.ack_of && nat_le 4 ((u + 1) - h.sent))
    by None e =
        ap (λ (q : Option ℕ). (if is_none q && (h.sent + 3 == u) then record h { ripe = true } else h).ripe) e
        ∙ asked (h.sent + 3 == u) refl (is.ripe ∙ ap (λ (q : Option ℕ). is_none q && nat_le 5 ((u + 1) - h.sent)) e)
        ∙ sym (ap (λ (q : Option ℕ). is_none q && nat_le 4 ((u + 1) - h.sent)) e)
    by (Some y) e =
        ap (λ (q : Option ℕ). (if is_none q && (h.sent + 3 == u) then record h { ripe = true } else h).ripe) e
        ∙ is.ripe ∙ ap (λ (q : Option ℕ). is_none q && nat_le 5 ((u + 1) - h.sent)) e
        ∙ sym (ap (λ (q : Option ℕ). is_none q && nat_le 4 ((u + 1) - h.sent)) e)

ripened_held : (u : ℕ) (h : Held) → IsHeldBefore u h → IsHeld u (ripened_at u h)
ripened_held u h is = by (is_none h.ack_of && (h.sent + 3 == u)) (ripe_now u h is)
  where
    by : (b : Bool) → (if b then record h { ripe = true } else h).ripe ≡ (is_none h.ack_of && nat_le 4 ((u + 1) - h.sent)) → IsHeld u (if b then record h { ripe = true } else h)
    by true r = record { sent = is.sent; size = is.size; clean = is.clean; ripe = r; place = is.place }
    by false r = record { sent = is.sent; size = is.size; clean = is.clean; ripe = r; place = is.place }

later : (s t : ℕ) → s ≤ t → nat_le 4 ((t + 1) - s) ≡ nat_le 5 ((t + 1 + 1) - s)
later s t le = grind (arith, nat_tests)

anew : (o : Option ℕ) (u : ℕ) → false ≡ (is_none o && nat_le 5 ((u + 1) - u))
anew None u = grind (arith, nat_tests)
anew (Some x) u = refl

renewed_before : (t : ℕ) (rs : List Repeat) (h : Held) → IsHeld t h → IsHeldBefore (t + 1) (renewed_by (t + 1) rs h)
renewed_before t rs h is = elim (is_repeated rs h) as (λ b. IsHeldBefore (t + 1) (if b then record h { sent = t + 1; due = false; ripe = false } else h)) [
  | true ↦ record { sent = omega arith; size = is.size; clean = is.clean; ripe = anew h.ack_of (t + 1); place = is.place }
  | false ↦ record { sent = (let s = is.sent in omega arith); size = is.size; clean = is.clean; ripe = is.ripe ∙ ap (λ (b : Bool). is_none h.ack_of && b) (later h.sent t is.sent); place = is.place }
]

-- after a plan all frames are valid
pub planned_held : (t : ℕ) (rs : List Repeat) (h : Held) → IsHeld t h → IsHeld (t + 1) (ripened_at (t + 1) (renewed_by (t + 1) rs h))
planned_held t rs h is = ripened_held (t + 1) (renewed_by (t + 1) rs h) (renewed_before t rs h is)
