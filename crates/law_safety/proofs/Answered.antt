-- The places that are acknowledged, tested and counted in the pending acknowledgements and in the window.
use Rattle.std.proofs.Common.{◌≡◌, ℕ, suc, ◌+◌, Bool, true, false, ◌&&◌, ◌||◌, List, [], ◌∷◌, length, refl, sym, ◌∙◌, ap, Option, Some, None, length-append, arith}
use Rattle.std.specs.Prelude.{◌==◌, is_some, map, filter, filter_map, if◌then◌else◌}
use Rattle.std.specs.List.{list_any, cons_option}
use Rattle.std.proofs.lemmas.List.Folds.{list_any-append}
use Rattle.qkd_base.specs.Lane.{lane_eq, way_eq, reverse_lane, reverse_way}
use Rattle.qkd_base.specs.declared.lane.Lane.{Lane}
use Rattle.qkd_base.specs.declared.lane.Way.{Way}
use Rattle.qkd_base.specs.declared.lane.Way.TheVariants.{Up, Down}
use Rattle.net_model.specs.World.{Entry, PendingAck, Volatile}
use Rattle.net_model.specs.Window.{answers_frame, offset_eq}
use Rattle.net_model.specs.Windows.{has_place, answered, answered_at}
use Rattle.law_base.proofs.Lists.{reverse_twice}
use Rattle.law_invariant.proofs.Entries.{pending_place, answer_of}
use Rattle.law_safety.specs.Life.{acknowledgements_on, pending_on}
use Rattle.law_safety.proofs.Counting.{offsets_on, offsets_of_both}

ways : (a b : Way) → way_eq (reverse_way a) (reverse_way b) ≡ way_eq a b
ways Up Up = refl
ways Up Down = refl
ways Down Up = refl
ways Down Down = refl

both_reversed : (a b : Lane) → lane_eq (reverse_lane a) (reverse_lane b) ≡ lane_eq a b
both_reversed a b = ap (λ (t : Bool). (a.link == b.link) && t) (ways a.way b.way)

one_reversed : (a b : Lane) → lane_eq (reverse_lane a) b ≡ lane_eq a (reverse_lane b)
one_reversed a b = ap (lane_eq (reverse_lane a)) (sym (reverse_twice b)) ∙ both_reversed a (reverse_lane b)

nothing : (b : Bool) → (b && false) ≡ false
nothing true = refl
nothing false = refl

everything : (b : Bool) → (b && true) ≡ b
everything true = refl
everything false = refl

-- Lemmas on places as tests.

abbrev pub is_from : Lane → ℕ → PendingAck → Bool
is_from l x a = lane_eq a.lane l && (a.offset == x)

abbrev pub answers : Lane → ℕ → Entry → Bool
answers l x e = answers_frame l x e.transmission

pub pending_has : (acks : List PendingAck) (l : Lane) (x : ℕ) → has_place (map pending_place acks) (l, x) ≡ list_any (is_from l x) acks
pending_has [] l x = refl
pending_has (a ∷ acks) l x = ap (λ (t : Bool). is_from l x a || t) (pending_has acks l x)

one_has : (k : Lane) (o : Option ℕ) (rest : List (Lane × ℕ)) (l : Lane) (x : ℕ) →
    has_place (cons_option (answered_at k o) rest) (l, x) ≡ (lane_eq k (reverse_lane l) && offset_eq o (Some x) || has_place rest (l, x))
one_has k None rest l x = ap (λ (t : Bool). t || has_place rest (l, x)) (sym (nothing (lane_eq k (reverse_lane l))))
one_has k (Some y) rest l x = ap (λ (t : Bool). t && (y == x) || has_place rest (l, x)) (one_reversed k l)

window_has : (es : List Entry) (l : Lane) (x : ℕ) → has_place (filter_map answer_of es) (l, x) ≡ list_any (answers l x) es
window_has [] l x = refl
window_has (e ∷ es) l x =
    one_has e.transmission.lane e.transmission.received_offset (filter_map answer_of es) l x ∙ ap (λ (t : Bool). answers l x e || t) (window_has es l x)

pub answered_has : (vol : Volatile) (l : Lane) (x : ℕ) → has_place (answered vol) (l, x) ≡ (list_any (is_from l x) vol.pending_acks || list_any (answers l x) vol.window)
answered_has vol l x =
    list_any-append (λ (p : Lane × ℕ). lane_eq p.0 l && (p.1 == x)) (map pending_place vol.pending_acks) (filter_map answer_of vol.window) ∙
    ap (λ (t : Bool). t || has_place (filter_map answer_of vol.window) (l, x)) (pending_has vol.pending_acks l x) ∙
    ap (λ (t : Bool). list_any (is_from l x) vol.pending_acks || t) (window_has vol.window l x)

-- Lemmas on places as counts.

pending_count : (k : Lane) (acks : List PendingAck) → length (offsets_on k (map pending_place acks)) ≡ length (filter (λ (a : PendingAck). lane_eq a.lane k) acks)
pending_count k [] = refl
pending_count k (a ∷ acks) =
    elim (lane_eq a.lane k) as (λ t. length (if t then a.offset ∷ offsets_on k (map pending_place acks) else offsets_on k (map pending_place acks)) ≡
    length (if t then a ∷ filter (λ (b : PendingAck). lane_eq b.lane k) acks else filter (λ (b : PendingAck). lane_eq b.lane k) acks)) [
      | true ↦ ap suc (pending_count k acks)
      | false ↦ pending_count k acks
    ]

abbrev is_ack : Lane → Entry → Bool
is_ack l e = lane_eq e.transmission.lane l && is_some e.transmission.received_offset

one_count : (l k : Lane) (o : Option ℕ) (e : Entry) (ps : List (Lane × ℕ)) (es : List Entry) → length (offsets_on (reverse_lane l) ps) ≡ length es →
    length (offsets_on (reverse_lane l) (cons_option (answered_at k o) ps)) ≡ length (if lane_eq k l && is_some o then e ∷ es else es)
one_count l k None e ps es h = h ∙ ap (λ (t : Bool). length (if t then e ∷ es else es)) (sym (nothing (lane_eq k l)))
one_count l k (Some x) e ps es h =
    ap (λ (t : Bool). length (if t then x ∷ offsets_on (reverse_lane l) ps else offsets_on (reverse_lane l) ps)) (both_reversed k l ∙ sym (everything (lane_eq k l))) ∙
    (elim (lane_eq k l && true) as (λ t. length (if t then x ∷ offsets_on (reverse_lane l) ps else offsets_on (reverse_lane l) ps) ≡ length (if t then e ∷ es else es)) [
      | true ↦ ap suc h
      | false ↦ h
    ])

window_count : (l : Lane) (es : List Entry) → length (offsets_on (reverse_lane l) (filter_map answer_of es)) ≡ length (filter (is_ack l) es)
window_count l [] = refl
window_count l (e ∷ es) = one_count l e.transmission.lane e.transmission.received_offset e (filter_map answer_of es) (filter (is_ack l) es) (window_count l es)

sum : (a b c d : ℕ) → a ≡ c → b ≡ d → a + b ≡ d + c
sum a b c d h k = omega (arith, h, k)

pub answered_count : (l : Lane) (vol : Volatile) → length (offsets_on (reverse_lane l) (answered vol)) ≡ length (acknowledgements_on l vol) + length (pending_on l vol)
answered_count l vol =
    ap length (offsets_of_both (reverse_lane l) (map pending_place vol.pending_acks) (filter_map answer_of vol.window)) ∙
    length-append (offsets_on (reverse_lane l) (map pending_place vol.pending_acks)) (offsets_on (reverse_lane l) (filter_map answer_of vol.window)) ∙
    sum _ _ _ _ (pending_count (reverse_lane l) vol.pending_acks) (window_count l vol.window)
