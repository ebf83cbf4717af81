-- Each received frame has at most one pending acknowledgement.
use Rattle.std.proofs.Common.{◌≡◌, ℕ, true, false, ◌&&◌, List, [], ◌∷◌, ◌++◌, refl, sym, ◌∙◌, ap, subst, Option, Some, None, inl, inr, append_assoc}
use Rattle.std.specs.Prelude.{◌==◌, map, filter_map}
use Rattle.std.specs.List.{list_any, cons_option}
use Rattle.std.proofs.lemmas.List.{map-append}
use Rattle.std.proofs.lemmas.List.Folds.{list_any-append}
use Rattle.qkd_base.specs.Name.{Name}
use Rattle.qkd_base.specs.Lane.{lane_eq, reverse_lane}
use Rattle.qkd_base.specs.declared.lane.Lane.{Lane}
use Rattle.net_model.specs.Site.{sender, receiver}
use Rattle.net_model.specs.World.{Network, World, Transmission, Entry, PendingAck, Volatile}
use Rattle.net_model.specs.Knowledge.{IsAdjacent}
use Rattle.net_model.specs.Window.{offset_eq, answers_frame, acknowledge}
use Rattle.net_model.specs.Windows.{IsVolatile, IsPending, IsAwaitedAck, is_same_ack, PlacesDiffer, has_place, answered_at}
use Rattle.law_base.proofs.Base.{by_test, eq_from, eq_same, lane_eq_from, and_left, and_right, and_both, or_first, or_second, or_both, or_left, not_false, not_both, lane_same}
use Rattle.law_base.proofs.Lists.{reverse_twice, last_cases}
use Rattle.law_invariant.proofs.Places.{has_both, differ_between}
use Rattle.law_invariant.proofs.Entries.{pending_place, answer_of, due_keeps}

-- No pending acknowledgement has this place.
pending_free : (acks : List PendingAck) (l : Lane) (offset : ℕ) → list_any (λ (a : PendingAck). lane_eq a.lane l && (a.offset == offset)) acks ≡ false → has_place (map pending_place acks) (l, offset) ≡ false
pending_free [] l offset h = refl
pending_free (a ∷ acks) l offset h =
    or_both (lane_eq a.lane l && (a.offset == offset)) (has_place (map pending_place acks) (l, offset))
    (or_first (lane_eq a.lane l && (a.offset == offset)) (list_any (λ (x : PendingAck). lane_eq x.lane l && (x.offset == offset)) acks) h)
    (pending_free acks l offset (or_second (lane_eq a.lane l && (a.offset == offset)) (list_any (λ (x : PendingAck). lane_eq x.lane l && (x.offset == offset)) acks) h))

-- No window entry acknowledges the frame at this place.
answer_free : (t : Transmission) (l : Lane) (offset : ℕ) (rest : List (Lane × ℕ)) → answers_frame l offset t ≡ false → has_place rest (l, offset) ≡ false →
    (o : Option ℕ) → t.received_offset ≡ o → has_place (cons_option (answered_at t.lane o) rest) (l, offset) ≡ false
answer_free t l offset rest h k None e = k
answer_free t l offset rest h k (Some x) e =
    or_both (lane_eq (reverse_lane t.lane) l && (x == offset)) (has_place rest (l, offset))
    (not_false _ (λ y.
    let lane : reverse_lane t.lane ≡ l = lane_eq_from (reverse_lane t.lane) l (and_left _ _ y) in
    let at : x ≡ offset = eq_from x offset (and_right (lane_eq (reverse_lane t.lane) l) (x == offset) y) in
    let back : t.lane ≡ reverse_lane l = sym (reverse_twice t.lane) ∙ ap reverse_lane lane in
    let answers : answers_frame l offset t ≡ true = and_both (lane_eq t.lane (reverse_lane l)) (offset_eq t.received_offset (Some offset))
    (ap (lane_eq t.lane) (sym back) ∙ lane_same t.lane) (ap (λ (y : Option ℕ). offset_eq y (Some offset)) (e ∙ ap Some at) ∙ eq_same offset) in
    not_both (answers_frame l offset t) answers h))
    k

answers_free : (es : List Entry) (l : Lane) (offset : ℕ) → list_any (λ (e : Entry). answers_frame l offset e.transmission) es ≡ false → has_place (filter_map answer_of es) (l, offset) ≡ false
answers_free [] l offset h = refl
answers_free (e ∷ es) l offset h =
    answer_free e.transmission l offset (filter_map answer_of es)
    (or_first (answers_frame l offset e.transmission) (list_any (λ (x : Entry). answers_frame l offset x.transmission) es) h)
    (answers_free es l offset (or_second (answers_frame l offset e.transmission) (list_any (λ (x : Entry). answers_frame l offset x.transmission) es) h))
    e.transmission.received_offset refl

module _ (net : Network) (w : World) (v : ℕ) (vol : Volatile) (l : Lane) (offset : ℕ) (n : Name) (to : receiver net.site l ≡ v)
    (knows : IsAdjacent w.durable.facts w.durable.known v (sender net.site l) v n) (h : IsVolatile net w v vol) where
  abbrev new : PendingAck
  new = record { lane = l; offset = offset; name = n }

  still_awaited : (t : Transmission) (o : Option ℕ) → IsAwaitedAck vol t o → IsAwaitedAck (record vol { pending_acks = vol.pending_acks ++ new ∷ [] }) t o
  still_awaited t None a = tt
  still_awaited t (Some x) a = list_any-append (is_same_ack t) vol.pending_acks (new ∷ []) ∙ or_left (list_any (is_same_ack t) vol.pending_acks) _ a

  pending_keeps : list_any (λ (e : Entry). answers_frame l offset e.transmission) vol.window ≡ false →
      list_any (λ (a : PendingAck). lane_eq a.lane l && (a.offset == offset)) vol.pending_acks ≡ false → IsVolatile net w v (record vol { pending_acks = vol.pending_acks ++ new ∷ [] })
  pending_keeps free none = record {
    entries = h.entries;
    places = h.places;
    pending = λ k a at. elim (last_cases vol.pending_acks new k a at) [
      | inl old ↦ h.pending k a old
      | inr (e, is) ↦ subst (IsPending net w v) is (record { lane = to; fact = knows })
    ];
    once = subst (λ (qs : List (Lane × ℕ)). PlacesDiffer (qs ++ filter_map answer_of vol.window)) (sym (map-append pending_place vol.pending_acks (new ∷ [])))
        (subst PlacesDiffer (sym (append_assoc (map pending_place vol.pending_acks) (pending_place new ∷ []) (filter_map answer_of vol.window)))
        (differ_between (map pending_place vol.pending_acks) (filter_map answer_of vol.window) (pending_place new) h.once
        (has_both (map pending_place vol.pending_acks) (filter_map answer_of vol.window) (pending_place new) (pending_free vol.pending_acks l offset none) (answers_free vol.window l offset free))));
    awaiting = λ k t at. let r = h.awaiting k t at in (r.0, r.1, still_awaited t t.received_offset r.2);
  }

  pub acknowledge_keeps : IsVolatile net w v (acknowledge vol l offset n)
  unfolding acknowledge
  acknowledge_keeps =
      by_test (IsVolatile net w v) (list_any (λ (e : Entry). answers_frame l offset e.transmission) vol.window) _ _ (λ e. due_keeps net w v vol l offset h)
      (λ free. by_test (IsVolatile net w v) (list_any (λ (a : PendingAck). lane_eq a.lane l && (a.offset == offset)) vol.pending_acks) _ _ (λ e. h) (λ none. pending_keeps free none))
