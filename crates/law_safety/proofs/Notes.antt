-- Noting a frame that was put: the acknowledgement that it carries leaves the pending ones and enters the window.
use Rattle.std.proofs.Common.{◌≡◌, ℕ, zero, suc, Bool, true, false, not, ◌&&◌, List, [], ◌∷◌, ◌++◌, refl, sym, ◌∙◌, ap, subst, Option, Some, None, append-nil, append_assoc}
use Rattle.std.specs.Prelude.{◌==◌, slice_get, is_some, map, filter, filter_map, if◌then◌else◌}
use Rattle.std.specs.List.{list_any, cons_option}
use Rattle.std.proofs.lemmas.List.Elements.{filter_map-append}
use Rattle.std.proofs.lemmas.List.Folds.{list_any-append}
use Rattle.qkd_base.specs.Name.{Name, name_eq}
use Rattle.qkd_base.specs.Lane.{lane_eq, reverse_lane}
use Rattle.qkd_base.specs.declared.lane.Lane.{Lane}
use Rattle.net_model.specs.declared.placing.Placing.{Placing}
use Rattle.net_model.specs.Item.{item_of}
use Rattle.net_model.specs.World.{Transmission, Entry, PendingAck, Volatile}
use Rattle.net_model.specs.Window.{offset_eq, transmission_eq, is_pending_of, stands_at, record_retransmission, transmission_of, entry_of, is_acked_item, complete_one}
use Rattle.net_model.specs.Windows.{is_same_ack, PlacesDiffer, has_place, answered, answered_at}
use Rattle.law_base.proofs.Base.{by_test, eq_from, eq_same, name_eq_from, lane_eq_from, and_left, and_right, and_both, or_left, or_right, or_first, or_second, or_both, not_false, not_both, was_not, lane_same}
use Rattle.law_base.proofs.Lists.{offset_from, reverse_twice, transmission_from, transmission_same, any_at, any_of, kept_at}
use Rattle.law_invariant.proofs.Places.{has_both, differ_last, differ_kept, one_place, apart}
use Rattle.law_invariant.proofs.Entries.{pending_place, answer_of}
use Rattle.law_safety.proofs.Answered.{answered_has, pending_has, is_from, answers}
use Rattle.law_safety.proofs.BoundSteps.{ack, IsFair, GoesOn, stays, changed}

renumber_same : (p : Placing) (e : Entry) → (record_retransmission p e).transmission ≡ e.transmission
renumber_same p e = by_test (λ (y : Entry). y.transmission ≡ e.transmission) (stands_at p e) _ e
    (λ k. by_test (λ (y : Entry). y.transmission ≡ e.transmission) (is_some p.number) _ _ (λ k. refl) (λ k. refl)) (λ k. refl)

not_either : (b : Bool) → (b ≡ true → ⊥) → not b ≡ true
not_either true h = absurd (h refl)
not_either false h = refl

-- Filtering twice leaves the items that pass both tests, and no others.

any_kept : {A : Type 0} (p q : A → Bool) (xs : List A) (a : A) (i : ℕ) → slice_get xs i ≡ Some a → p a ≡ true → q a ≡ true → list_any q (filter p xs) ≡ true
any_kept p q [] a i h e k = cc
any_kept {A} p q (x ∷ xs) a zero h e k =
    let is : a ≡ x = cc in
    subst (λ (t : Bool). list_any q (if t then x ∷ filter p xs else filter p xs) ≡ true) (sym (ap p (sym is) ∙ e)) (or_left (q x) (list_any q (filter p xs)) (ap q (sym is) ∙ k))
any_kept {A} p q (x ∷ xs) a (suc i) h e k =
    let rest = any_kept p q xs a i h e k in
    elim (p x) as (λ t. list_any q (if t then x ∷ filter p xs else filter p xs) ≡ true) [
      | true ↦ or_right (q x) (list_any q (filter p xs)) rest
      | false ↦ rest
    ]

none_kept : {A : Type 0} (p q : A → Bool) (xs : List A) → list_any q xs ≡ false → list_any q (filter p xs) ≡ false
none_kept p q [] h = h
none_kept p q (x ∷ xs) h =
    let rest = none_kept p q xs (or_second (q x) (list_any q xs) h) in
    elim (p x) as (λ t. list_any q (if t then x ∷ filter p xs else filter p xs) ≡ false) [
      | true ↦ or_both (q x) (list_any q (filter p xs)) (or_first (q x) (list_any q xs) h) rest
      | false ↦ rest
    ]

-- If a transmission sends a pending acknowledgement, the two have the same place.

its_place : (t : Transmission) (a : PendingAck) → is_pending_of t a ≡ true → (a.lane ≡ reverse_lane t.lane) × (t.received_offset ≡ Some a.offset)
its_place t a h = (
  sym (ap reverse_lane (lane_eq_from t.lane (reverse_lane a.lane) (and_left (lane_eq t.lane (reverse_lane a.lane)) (offset_eq t.received_offset (Some a.offset)) h)) ∙ reverse_twice a.lane),
  offset_from t.received_offset (Some a.offset) (and_right (lane_eq t.lane (reverse_lane a.lane)) (offset_eq t.received_offset (Some a.offset)) h),
)

is_pending : (t : Transmission) (a : PendingAck) → a.lane ≡ reverse_lane t.lane → t.received_offset ≡ Some a.offset → is_pending_of t a ≡ true
is_pending t a at e =
    let back : t.lane ≡ reverse_lane a.lane = sym (reverse_twice t.lane) ∙ ap reverse_lane (sym at) in
    and_both (lane_eq t.lane (reverse_lane a.lane)) (offset_eq t.received_offset (Some a.offset))
    (ap (lane_eq t.lane) (sym back) ∙ lane_same t.lane) (ap (λ (o : Option ℕ). offset_eq o (Some a.offset)) e ∙ eq_same a.offset)

same_number : (x y : ℕ) → ◌≡◌ {A = Option ℕ} (Some x) (Some y) → x ≡ y
same_number x y h = cc

-- An acknowledgement and its pending one have the same place and name.
its_ack : (l : Lane) (x : ℕ) (n : Name) (a : PendingAck) → is_same_ack (ack l x n) a ≡ true → (a.lane ≡ reverse_lane l) × (a.offset ≡ x) × (a.name ≡ n)
its_ack l x n a h =
    let at = its_place (ack l x n) a (and_left (is_pending_of (ack l x n) a) (name_eq a.name n) h) in
    (at.0, sym (same_number x a.offset at.1), name_eq_from a.name n (and_right (is_pending_of (ack l x n) a) (name_eq a.name n) h))

module _ (acked : List Name) (vol : Volatile) (IsSilent : Lane × ℕ → Type 0) (p : Placing) (h : IsFair vol) where
  abbrev t : Transmission
  t = transmission_of p

  abbrev is_other : PendingAck → Bool
  is_other a = not (is_pending_of t a)

  abbrev left : List PendingAck
  left = filter is_other vol.pending_acks

  abbrev pending : List (Lane × ℕ)
  pending = map pending_place vol.pending_acks

  abbrev answered_now : List (Lane × ℕ)
  answered_now = filter_map answer_of vol.window

  module _ (awaited : list_any (transmission_eq t) vol.awaiting ≡ true) where
    abbrev new : Volatile
    new = record {
      window = if is_acked_item acked t.item then vol.window else vol.window ++ entry_of p ∷ [];
      pending_acks = left;
      awaiting = filter (λ x. not (transmission_eq t x)) vol.awaiting;
    }

    -- The pending acknowledgement that the frame sends.
    mine : (x : ℕ) → p.ack_of ≡ Some x → (k : ℕ) × (a : PendingAck) × (slice_get vol.pending_acks k ≡ Some a) × (is_same_ack (ack p.lane x p.name) a ≡ true)
    mine x e =
        let is : t ≡ ack p.lane x p.name = λ i. record { lane = p.lane; item = item_of (e i) p.name; received_offset = e i } in
        any_at (is_same_ack (ack p.lane x p.name)) vol.pending_acks (h.awaited p.lane x p.name (subst (λ (y : Transmission). list_any (transmission_eq y) vol.awaiting ≡ true) is awaited))

    -- Its place was acknowledged before.
    was_answered : (x : ℕ) → p.ack_of ≡ Some x → has_place (answered vol) (reverse_lane p.lane, x) ≡ true
    was_answered x e =
        let r = mine x e in
        let at = its_ack p.lane x p.name r.1 r.3 in
        let here : is_from (reverse_lane p.lane) x r.1 ≡ true = and_both (lane_eq r.1.lane (reverse_lane p.lane)) (r.1.offset == x)
        (subst (λ (y : Lane). lane_eq r.1.lane y ≡ true) at.0 (lane_same r.1.lane)) (subst (λ (y : ℕ). (r.1.offset == y) ≡ true) at.1 (eq_same r.1.offset)) in
        answered_has vol (reverse_lane p.lane) x ∙ or_left (list_any (is_from (reverse_lane p.lane) x) vol.pending_acks) (list_any (answers (reverse_lane p.lane) x) vol.window)
        (any_of (is_from (reverse_lane p.lane) x) vol.pending_acks r.1 r.0 r.2 here)

    -- No entry of the window acknowledges its place.
    window_free : (x : ℕ) → p.ack_of ≡ Some x → has_place answered_now (reverse_lane p.lane, x) ≡ false
    window_free x e =
        let r = mine x e in
        let at = its_ack p.lane x p.name r.1 r.3 in
        ap (has_place answered_now) (λ i. (sym at.0 i, sym at.1 i)) ∙ apart pending_place vol.pending_acks answered_now r.0 r.1 h.once r.2

    -- None of the other pending acknowledgements has its place.
    left_free : (x : ℕ) → p.ack_of ≡ Some x → has_place (map pending_place left) (reverse_lane p.lane, x) ≡ false
    left_free x e = pending_has left (reverse_lane p.lane) x ∙ not_false _ (λ k.
        let r = any_at (is_from (reverse_lane p.lane) x) left k in
        let a : PendingAck = r.1 in
        let other = (kept_at is_other vol.pending_acks a r.0 r.2).2 in
        let lane : a.lane ≡ reverse_lane p.lane = lane_eq_from a.lane (reverse_lane p.lane) (and_left (lane_eq a.lane (reverse_lane p.lane)) (a.offset == x) r.3) in
        let offset : a.offset ≡ x = eq_from a.offset x (and_right (lane_eq a.lane (reverse_lane p.lane)) (a.offset == x) r.3) in
        not_both (is_pending_of t a) (is_pending t a lane (e ∙ ap Some (sym offset))) (was_not (is_pending_of t a) other))

    once_left : PlacesDiffer (map pending_place left ++ answered_now)
    once_left = differ_kept pending_place is_other vol.pending_acks answered_now h.once

    once_more : (o : Option ℕ) → p.ack_of ≡ o → PlacesDiffer (map pending_place left ++ (answered_now ++ cons_option (answered_at p.lane o) []))
    once_more None e = subst (λ (qs : List (Lane × ℕ)). PlacesDiffer (map pending_place left ++ qs)) (sym (append-nil answered_now)) once_left
    once_more (Some x) e =
        subst PlacesDiffer (append_assoc (map pending_place left) answered_now ((reverse_lane p.lane, x) ∷ []))
        (differ_last (map pending_place left ++ answered_now) (reverse_lane p.lane, x) once_left
        (has_both (map pending_place left) answered_now (reverse_lane p.lane, x) (left_free x e) (window_free x e)))

    once_entry : PlacesDiffer (map pending_place left ++ filter_map answer_of (vol.window ++ entry_of p ∷ []))
    once_entry = subst (λ (qs : List (Lane × ℕ)). PlacesDiffer (map pending_place left ++ qs)) (sym (filter_map-append answer_of vol.window (entry_of p ∷ []))) (once_more p.ack_of refl)

    -- Two awaited acknowledgements of the same place are the same.
    same_order : (l : Lane) (x : ℕ) (n : Name) (k : ℕ) (a : PendingAck) → slice_get vol.pending_acks k ≡ Some a → is_same_ack (ack l x n) a ≡ true → is_pending_of t a ≡ true →
        t ≡ ack l x n
    same_order l x n k a there is m =
        let its = its_ack l x n a is in
        let at = its_place t a m in
        let e : p.ack_of ≡ Some x = at.1 ∙ ap Some its.1 in
        let own = mine x e in
        let b : PendingAck = own.1 in
        let b_is = its_ack p.lane x p.name b own.3 in
        let lanes : b.lane ≡ a.lane = b_is.0 ∙ sym at.0 in
        let offsets : b.offset ≡ a.offset = b_is.1 ∙ sym its.1 in
        let one : b ≡ a = one_place pending_place vol.pending_acks answered_now own.0 k b a h.once own.2 there (λ i. (lanes i, offsets i)) in
        let name : p.name ≡ n = sym b_is.2 ∙ ap (λ (y : PendingAck). y.name) one ∙ its.2 in
        let lane : p.lane ≡ l = sym (reverse_twice p.lane) ∙ ap reverse_lane (sym at.0 ∙ its.0) ∙ reverse_twice l in
        λ i. record { lane = lane i; item = item_of (e i) (name i); received_offset = e i }

    -- All other awaited acknowledgements are still pending.
    still_awaited : (l : Lane) (x : ℕ) (n : Name) → list_any (transmission_eq (ack l x n)) new.awaiting ≡ true → list_any (is_same_ack (ack l x n)) left ≡ true
    still_awaited l x n e =
        let r = any_at (transmission_eq (ack l x n)) new.awaiting e in
        let was = kept_at (λ y. not (transmission_eq t y)) vol.awaiting r.1 r.0 r.2 in
        let is : ack l x n ≡ r.1 = transmission_from (ack l x n) r.1 r.3 in
        let own = any_at (is_same_ack (ack l x n)) vol.pending_acks (h.awaited l x n (any_of (transmission_eq (ack l x n)) vol.awaiting r.1 was.0 was.1 r.3)) in
        any_kept is_other (is_same_ack (ack l x n)) vol.pending_acks own.1 own.0 own.2
        (not_either (is_pending_of t own.1) (λ m.
        let all : t ≡ r.1 = same_order l x n own.0 own.1 own.2 own.3 m ∙ is in
        not_both (transmission_eq t r.1) (subst (λ (y : Transmission). transmission_eq t y ≡ true) all (transmission_same t)) (was_not (transmission_eq t r.1) was.2)))
        own.3

    -- A place that wasn't acknowledged before isn't acknowledged now.

    left_silent : (q : Lane × ℕ) → has_place pending q ≡ false → has_place (map pending_place left) q ≡ false
    left_silent q e = pending_has left q.0 q.1 ∙ none_kept is_other (is_from q.0 q.1) vol.pending_acks (sym (pending_has vol.pending_acks q.0 q.1) ∙ e)

    entry_silent : (q : Lane × ℕ) → has_place (answered vol) q ≡ false → (o : Option ℕ) → p.ack_of ≡ o → has_place (cons_option (answered_at p.lane o) []) q ≡ false
    entry_silent q e None k = refl
    entry_silent q e (Some x) k = or_both (lane_eq (reverse_lane p.lane) q.0 && (x == q.1)) false
        (not_false _ (λ y.
        let lane : reverse_lane p.lane ≡ q.0 = lane_eq_from (reverse_lane p.lane) q.0 (and_left (lane_eq (reverse_lane p.lane) q.0) (x == q.1) y) in
        let offset : x ≡ q.1 = eq_from x q.1 (and_right (lane_eq (reverse_lane p.lane) q.0) (x == q.1) y) in
        not_both (has_place (answered vol) q) (ap (has_place (answered vol)) (sym (λ i. (lane i, offset i))) ∙ was_answered x k) e))
        refl

    new_silent : (q : Lane × ℕ) → has_place (answered vol) q ≡ false → has_place (answered new) q ≡ false
    new_silent q e =
        let parts = sym (list_any-append (λ (p : Lane × ℕ). lane_eq p.0 q.0 && (p.1 == q.1)) pending answered_now) ∙ e in
        let first = left_silent q (or_first (has_place pending q) (has_place answered_now q) parts) in
        let window = or_second (has_place pending q) (has_place answered_now q) parts in
        by_test (λ (es : List Entry). has_place (map pending_place left ++ filter_map answer_of es) q ≡ false) (is_acked_item acked t.item) _ _
        (λ k. has_both (map pending_place left) answered_now q first window)
        (λ k. has_both (map pending_place left) (filter_map answer_of (vol.window ++ entry_of p ∷ [])) q first
        (ap (λ (qs : List (Lane × ℕ)). has_place qs q) (filter_map-append answer_of vol.window (entry_of p ∷ [])) ∙
        has_both answered_now (cons_option (answered_at p.lane p.ack_of) []) q window (entry_silent q e p.ack_of refl)))

    goes_on : GoesOn vol IsSilent new
    goes_on = record {
      fair = record {
        once = by_test (λ (es : List Entry). PlacesDiffer (map pending_place left ++ filter_map answer_of es)) (is_acked_item acked t.item) _ _ (λ k. once_left) (λ k. once_entry);
        awaited = still_awaited;
      };
      silent = λ q e s. new_silent q e;
    }

  pub notes : GoesOn vol IsSilent (complete_one acked vol p)
  unfolding complete_one
  notes =
      by_test (GoesOn vol IsSilent) p.fresh _ _
      (λ fresh. by_test (GoesOn vol IsSilent) (list_any (transmission_eq t) vol.awaiting && not (list_any (stands_at p) vol.window)) _ _
      (λ e. goes_on (and_left (list_any (transmission_eq t) vol.awaiting) (not (list_any (stands_at p) vol.window)) e))
      (λ e. stays vol IsSilent h))
      (λ again. changed (record_retransmission p) (renumber_same p) vol IsSilent h)
