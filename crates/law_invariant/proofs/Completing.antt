-- What a manager's note of its frames does: it adds entries and numbers, and removes pending acknowledgements that
-- were sent.
use Rattle.std.proofs.Common.{◌≡◌, ℕ, zero, suc, Bool, true, false, not, ◌&&◌, ◌||◌, List, [], ◌∷◌, ◌++◌, refl, sym, ◌∙◌, ap, subst, Option, Some, None, inl, inr, append-nil, append_assoc}
use Rattle.std.specs.Prelude.{◌==◌, slice_get, is_some, map, filter, filter_map, if◌then◌else◌}
use Rattle.std.specs.List.{list_any, cons_option}
use Rattle.std.proofs.lemmas.List.{map-append}
use Rattle.std.proofs.lemmas.List.Elements.{filter_map-append}
use Rattle.qkd_base.specs.Name.{Name, name_eq}
use Rattle.qkd_base.specs.Lane.{lane_eq, reverse_lane}
use Rattle.qkd_base.specs.declared.lane.Lane.{Lane}
use Rattle.net_model.specs.declared.placing.Placing.{Placing}
use Rattle.net_model.specs.Item.{AckItem, item_of, item_name}
use Rattle.net_model.specs.World.{Network, World, Transmission, Entry, PendingAck, Volatile}
use Rattle.net_model.specs.Window.{offset_eq, transmission_eq, is_pending_of, stands_at, record_retransmission, transmission_of, entry_of, is_acked_item, complete_one, complete}
use Rattle.net_model.specs.Windows.{IsShaped, IsOnWire, IsEntry, IsPlaced, IsVolatile, IsAwaitedAck, is_same_ack, PlacesDiffer, has_place, place_of, answered_at}
use Rattle.net_model.specs.Invariant.{Conserved}
use Rattle.law_base.proofs.Base.{by_test, eq_from, eq_same, name_eq_from, or_left, or_right, lane_eq_from, and_left, and_right, and_both, not_false, not_both, was_not, lane_same}
use Rattle.law_base.proofs.Lists.{offset_from, reverse_twice, transmission_same, order_at, any_at, kept_at, last_cases}
use Rattle.law_base.proofs.Owners.{same_frame}
use Rattle.law_invariant.proofs.Places.{has_both, differ_last, differ_kept, one_place, apart}
use Rattle.law_invariant.proofs.Entries.{pending_place, answer_of, IsChange, changed_keeps}

shape_of : (o : Option ℕ) (n : Name) → item_of o n ≡ item_of o (item_name (item_of o n))
shape_of None n = refl
shape_of (Some x) n = refl

not_either : (b : Bool) → (b ≡ true → ⊥) → not b ≡ true
not_either true h = absurd (h refl)
not_either false h = refl

-- An item that passes both tests is found in what the first test leaves.
any_kept : {A : Type 0} (p q : A → Bool) (xs : List A) (a : A) (i : ℕ) → slice_get xs i ≡ Some a → p a ≡ true → q a ≡ true → list_any q (filter p xs) ≡ true
any_kept p q [] a i h e k = cc
any_kept {A} p q (x ∷ xs) a zero h e k =
    let is : a ≡ x = cc in
    subst (λ (t : Bool). list_any q (if t then x ∷ filter p xs else filter p xs) ≡ true) (sym (ap p (sym is) ∙ e)) (or_left (q x) (list_any q (filter p xs)) (ap q (sym is) ∙ k))
any_kept {A} p q (x ∷ xs) a (suc i) h e k =
    let rest = any_kept p q xs a i h e k in
    elim (p x) as (λ t. list_any q (if t then x ∷ filter p xs else filter p xs) ≡ true) [
      | true ↦ or_right (q x) (list_any q (filter p xs)) rest
      | false ↦ rest
    ]

any_map : {A B : Type 0} (q : B → Bool) (f : A → B) (xs : List A) → list_any q (map f xs) ≡ list_any (λ x. q (f x)) xs
any_map q f [] = refl
any_map q f (x ∷ xs) = ap (λ (t : Bool). q (f x) || t) (any_map q f xs)

module _ (net : Network) (w : World) (v : ℕ) (c : Conserved net w) (acked : List Name) where
  -- If a transmission sends a pending acknowledgement, the two have the same place.
  place_of_pending : (t : Transmission) (a : PendingAck) → is_pending_of t a ≡ true → (reverse_lane t.lane ≡ a.lane) × (t.received_offset ≡ Some a.offset)
  place_of_pending t a h = (
    ap reverse_lane (lane_eq_from t.lane (reverse_lane a.lane) (and_left (lane_eq t.lane (reverse_lane a.lane)) (offset_eq t.received_offset (Some a.offset)) h)) ∙ reverse_twice a.lane,
    offset_from t.received_offset (Some a.offset) (and_right (lane_eq t.lane (reverse_lane a.lane)) (offset_eq t.received_offset (Some a.offset)) h),
  )

  is_pending : (t : Transmission) (a : PendingAck) → a.lane ≡ reverse_lane t.lane → t.received_offset ≡ Some a.offset → is_pending_of t a ≡ true
  is_pending t a at e =
      let back : t.lane ≡ reverse_lane a.lane = sym (reverse_twice t.lane) ∙ ap reverse_lane (sym at) in
      and_both (lane_eq t.lane (reverse_lane a.lane)) (offset_eq t.received_offset (Some a.offset))
      (ap (lane_eq t.lane) (sym back) ∙ lane_same t.lane) (ap (λ (o : Option ℕ). offset_eq o (Some a.offset)) e ∙ eq_same a.offset)

  module _ (vol : Volatile) (p : Placing) (h : IsVolatile net w v vol) (is : IsPlaced net w v p) where
    abbrev t : Transmission
    t = transmission_of p

    abbrev is_other : PendingAck → Bool
    is_other a = not (is_pending_of t a)

    entry_is : IsEntry net w v (entry_of p)
    entry_is = record {
      shaped = shape_of p.ack_of p.name;
      site = is.site;
      lane = is.lane;
      number = is.number;
      frame = is.frame;
      octets = is.octets;
      wire = is.wire;
    }

    -- An entry that was put again gets a new number.

    repeat_change : IsChange (record_retransmission p)
    repeat_change = record {
      transmission = λ e. by_test (λ (x : Entry). x.transmission ≡ e.transmission) (stands_at p e) _ e
          (λ k. by_test (λ (x : Entry). x.transmission ≡ e.transmission) (is_some p.number) _ _ (λ k. refl) (λ k. refl)) (λ k. refl);
      offset = λ e. by_test (λ (x : Entry). x.offset ≡ e.offset) (stands_at p e) _ e
          (λ k. by_test (λ (x : Entry). x.offset ≡ e.offset) (is_some p.number) _ _ (λ k. refl) (λ k. refl)) (λ k. refl);
    }

    repeat_entry : (e : Entry) → IsEntry net w v e → IsEntry net w v (record_retransmission p e)
    repeat_entry e k =
        by_test (IsEntry net w v) (stands_at p e) _ e
        (λ at. by_test (IsEntry net w v) (is_some p.number) _ _
        (λ put.
        let lane : e.transmission.lane ≡ p.lane = lane_eq_from e.transmission.lane p.lane (and_left (lane_eq e.transmission.lane p.lane) (e.offset == p.offset) at) in
        let offset : e.offset ≡ p.offset = eq_from e.offset p.offset (and_right (lane_eq e.transmission.lane p.lane) (e.offset == p.offset) at) in
        let there : slice_get (w.frames p.lane) k.number ≡ Some (record { offset = e.offset; item = e.transmission.item }) = ap (λ (x : Lane). slice_get (w.frames x) k.number) (sym lane) ∙ k.frame in
        let same : is.number ≡ k.number = same_frame w.durable.facts (w.durable.own p.lane) (w.frames p.lane) _ (c.now.owned p.lane) is.number k.number _ _ is.frame there (sym offset) in
        record {
          shaped = k.shaped;
          site = k.site;
          lane = k.lane;
          number = k.number;
          frame = k.frame;
          octets = k.octets;
          wire = subst (λ (x : Lane). IsOnWire (w.wire x) k.number p.number) (sym lane) (subst (λ (j : ℕ). IsOnWire (w.wire p.lane) j p.number) same is.wire);
        })
        (λ refused. record { shaped = k.shaped; site = k.site; lane = k.lane; number = k.number; frame = k.frame; octets = k.octets; wire = k.wire }))
        (λ no. k)

    repeat_keeps : IsVolatile net w v (record vol { window = map (record_retransmission p) vol.window })
    repeat_keeps = changed_keeps (record_retransmission p) repeat_change net w v vol (λ n e at. repeat_entry e (h.entries n e at)) h

    -- An order that was awaited becomes an entry of the window.

    module _ (awaited : list_any (transmission_eq t) vol.awaiting ≡ true) (free : list_any (stands_at p) vol.window ≡ false) where
      order : (k : ℕ) × (slice_get vol.awaiting k ≡ Some t)
      order = order_at t vol.awaiting awaited

      abbrev left : List PendingAck
      left = filter is_other vol.pending_acks

      abbrev after : Volatile
      after = record {
        window = if is_acked_item acked t.item then vol.window else vol.window ++ entry_of p ∷ [];
        pending_acks = left;
        awaiting = filter (λ x. not (transmission_eq t x)) vol.awaiting;
      }

      -- The pending acknowledgement that the order sends.
      its_ack : (x : ℕ) → p.ack_of ≡ Some x → (k : ℕ) × (a : PendingAck) × (slice_get vol.pending_acks k ≡ Some a) × (is_same_ack t a ≡ true)
      its_ack x e =
          let r : IsAwaitedAck vol t p.ack_of = (h.awaiting order.0 t order.1).2 in
          any_at (is_same_ack t) vol.pending_acks (subst (IsAwaitedAck vol t) e r)

      -- None of the other pending acknowledgements has its place.
      left_free : (x : ℕ) → p.ack_of ≡ Some x → has_place (map pending_place left) (reverse_lane p.lane, x) ≡ false
      left_free x e = any_map _ pending_place left ∙ not_false _ (λ k.
          let r = any_at (λ (a : PendingAck). lane_eq a.lane (reverse_lane p.lane) && (a.offset == x)) left k in
          let a : PendingAck = r.1 in
          let other = (kept_at is_other vol.pending_acks a r.0 r.2).2 in
          let lane : a.lane ≡ reverse_lane p.lane = lane_eq_from a.lane (reverse_lane p.lane) (and_left (lane_eq a.lane (reverse_lane p.lane)) (a.offset == x) r.3) in
          let offset : a.offset ≡ x = eq_from a.offset x (and_right (lane_eq a.lane (reverse_lane p.lane)) (a.offset == x) r.3) in
          not_both (is_pending_of t a) (is_pending t a lane (e ∙ ap Some (sym offset))) (was_not (is_pending_of t a) other))

      -- No entry of the window acknowledges the same frame.
      answers_free : (x : ℕ) → p.ack_of ≡ Some x → has_place (filter_map answer_of vol.window) (reverse_lane p.lane, x) ≡ false
      answers_free x e =
          let r = its_ack x e in
          let at = place_of_pending t r.1 (and_left (is_pending_of t r.1) (name_eq r.1.name (item_name t.item)) r.3) in
          let offset : ◌≡◌ {A = Option ℕ} (Some x) (Some r.1.offset) = sym e ∙ at.1 in
          let same : x ≡ r.1.offset = cc in
          let free' = apart pending_place vol.pending_acks (filter_map answer_of vol.window) r.0 r.1 h.once r.2 in
          ap (has_place (filter_map answer_of vol.window)) (λ i. (at.0 i, same i)) ∙ free'

      once_left : PlacesDiffer (map pending_place left ++ filter_map answer_of vol.window)
      once_left = differ_kept pending_place is_other vol.pending_acks (filter_map answer_of vol.window) h.once

      once_more : (o : Option ℕ) → p.ack_of ≡ o → PlacesDiffer (map pending_place left ++ (filter_map answer_of vol.window ++ cons_option (answered_at p.lane o) []))
      once_more None e = subst (λ (qs : List (Lane × ℕ)). PlacesDiffer (map pending_place left ++ qs)) (sym (append-nil (filter_map answer_of vol.window))) once_left
      once_more (Some x) e =
          subst PlacesDiffer (append_assoc (map pending_place left) (filter_map answer_of vol.window) ((reverse_lane p.lane, x) ∷ []))
          (differ_last (map pending_place left ++ filter_map answer_of vol.window) (reverse_lane p.lane, x) once_left
          (has_both (map pending_place left) (filter_map answer_of vol.window) (reverse_lane p.lane, x) (left_free x e) (answers_free x e)))

      once_entry : PlacesDiffer (map pending_place left ++ filter_map answer_of (vol.window ++ entry_of p ∷ []))
      once_entry = subst (λ (qs : List (Lane × ℕ)). PlacesDiffer (map pending_place left ++ qs)) (sym (filter_map-append answer_of vol.window (entry_of p ∷ []))) (once_more p.ack_of refl)

      places_entry : PlacesDiffer (map place_of (vol.window ++ entry_of p ∷ []))
      places_entry =
          subst PlacesDiffer (sym (map-append place_of vol.window (entry_of p ∷ [])))
          (differ_last (map place_of vol.window) (place_of (entry_of p)) h.places (any_map _ place_of vol.window ∙ free))

      -- Two awaited acknowledgements of the same frame are the same.
      same_order : (x : Transmission) (offset : ℕ) → x.received_offset ≡ Some offset → IsShaped x → (k : ℕ) (a : PendingAck) → slice_get vol.pending_acks k ≡ Some a →
          is_same_ack x a ≡ true → is_pending_of t a ≡ true → transmission_eq t x ≡ true
      same_order x offset e shaped k a there has m =
          let mine = place_of_pending t a m in
          let its = place_of_pending x a (and_left (is_pending_of x a) (name_eq a.name (item_name x.item)) has) in
          let own = its_ack a.offset mine.1 in
          let b : PendingAck = own.1 in
          let b_is = place_of_pending t b (and_left (is_pending_of t b) (name_eq b.name (item_name t.item)) own.3) in
          let lane : b.lane ≡ a.lane = sym b_is.0 ∙ mine.0 in
          let offsets : ◌≡◌ {A = Option ℕ} (Some b.offset) (Some a.offset) = sym b_is.1 ∙ mine.1 in
          let at : b.offset ≡ a.offset = cc in
          let same : b ≡ a = one_place pending_place vol.pending_acks (filter_map answer_of vol.window) own.0 k b a h.once own.2 there (λ i. (lane i, at i)) in
          let name : item_name t.item ≡ item_name x.item =
          sym (name_eq_from b.name (item_name t.item) (and_right (is_pending_of t b) (name_eq b.name (item_name t.item)) own.3)) ∙ ap (λ (y : PendingAck). y.name) same ∙
          name_eq_from a.name (item_name x.item) (and_right (is_pending_of x a) (name_eq a.name (item_name x.item)) has) in
          let t_item : t.item ≡ AckItem (item_name t.item) = shape_of p.ack_of p.name ∙ ap (λ (o : Option ℕ). item_of o (item_name t.item)) mine.1 in
          let x_item : x.item ≡ AckItem (item_name x.item) = shaped ∙ ap (λ (o : Option ℕ). item_of o (item_name x.item)) e in
          let item : t.item ≡ x.item = t_item ∙ ap AckItem name ∙ sym x_item in
          let lanes : t.lane ≡ x.lane = sym (reverse_twice t.lane) ∙ ap reverse_lane (mine.0 ∙ sym its.0) ∙ reverse_twice x.lane in
          let received : t.received_offset ≡ x.received_offset = mine.1 ∙ sym its.1 in
          let all : t ≡ x = λ i. record { lane = lanes i; item = item i; received_offset = received i } in
          subst (λ (y : Transmission). transmission_eq t y ≡ true) all (transmission_same t)

      -- All other awaited orders stay awaited.
      still_awaited : (x : Transmission) (o : Option ℕ) → x.received_offset ≡ o → IsShaped x → not (transmission_eq t x) ≡ true → IsAwaitedAck vol x o → IsAwaitedAck after x o
      still_awaited x None e shaped ne k = tt
      still_awaited x (Some offset) e shaped ne k =
          let r = any_at (is_same_ack x) vol.pending_acks k in
          let a : PendingAck = r.1 in
          any_kept is_other (is_same_ack x) vol.pending_acks a r.0 r.2 (not_either (is_pending_of t a) (λ m. not_both (transmission_eq t x) (same_order x offset e shaped r.0 a r.2 r.3 m) (was_not (transmission_eq t x) ne))) r.3

      order_keeps : IsVolatile net w v after
      order_keeps = record {
        entries = by_test (λ (es : List Entry). (n : ℕ) (e : Entry) → slice_get es n ≡ Some e → IsEntry net w v e) (is_acked_item acked t.item) _ _ (λ k. h.entries)
            (λ k n e at. elim (last_cases vol.window (entry_of p) n e at) [ inl old ↦ h.entries n e old | inr (i, new) ↦ subst (IsEntry net w v) new entry_is ]);
        places = by_test (λ (es : List Entry). PlacesDiffer (map place_of es)) (is_acked_item acked t.item) _ _ (λ k. h.places) (λ k. places_entry);
        pending = λ n a at. let r = kept_at is_other vol.pending_acks a n at in h.pending r.0 a r.1;
        once = by_test (λ (es : List Entry). PlacesDiffer (map pending_place left ++ filter_map answer_of es)) (is_acked_item acked t.item) _ _ (λ k. once_left) (λ k. once_entry);
        awaiting = λ n x at.
            let r = kept_at (λ y. not (transmission_eq t y)) vol.awaiting x n at in
            let k = h.awaiting r.0 x r.1 in
            (k.0, k.1, still_awaited x x.received_offset refl k.1 r.2 k.2);
      }

    one_keeps : IsVolatile net w v (complete_one acked vol p)
    unfolding complete_one
    one_keeps =
        by_test (IsVolatile net w v) p.fresh _ _
        (λ fresh. by_test (IsVolatile net w v) (list_any (transmission_eq t) vol.awaiting && not (list_any (stands_at p) vol.window)) _ _
        (λ e. order_keeps (and_left (list_any (transmission_eq t) vol.awaiting) (not (list_any (stands_at p) vol.window)) e)
        (was_not (list_any (stands_at p) vol.window) (and_right (list_any (transmission_eq t) vol.awaiting) (not (list_any (stands_at p) vol.window)) e)))
        (λ e. h))
        (λ again. repeat_keeps)

  -- Noting all frames one after another keeps the manager's memory consistent.
  pub placings_keep : (vol : Volatile) (ps : List Placing) → ((n : ℕ) (p : Placing) → slice_get ps n ≡ Some p → IsPlaced net w v p) → IsVolatile net w v vol →
      IsVolatile net w v (complete acked vol ps)
  unfolding complete
  placings_keep vol [] each h = h
  placings_keep vol (p ∷ ps) each h = placings_keep (complete_one acked vol p) ps (λ n q at. each (suc n) q at) (one_keeps vol p h (each zero p refl))
