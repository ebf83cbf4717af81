-- What is in flight stays as old while frames come, acknowledgements come, and other lanes' frames are noted.
use Rattle.std.proofs.Common.{◌≡◌, ℕ, Bool, true, false, not, ◌&&◌, ◌||◌, List, [], ◌∷◌, ◌++◌, refl, ap}
use Rattle.std.specs.Prelude.{◌==◌, nat_le, is_some, map, filter, if◌then◌else◌}
use Rattle.std.specs.List.{list_any, list_all}
use Rattle.qkd_base.specs.Name.{Name}
use Rattle.qkd_base.specs.Lane.{lane_eq}
use Rattle.qkd_base.specs.declared.lane.Lane.{Lane}
use Rattle.net_model.specs.declared.placing.Placing.{Placing}
use Rattle.net_model.specs.World.{Entry, PendingAck, Volatile}
use Rattle.net_model.specs.Window.{transmission_eq, answers_frame, mark_due, acknowledge, cleared, is_data_entry, stands_at, record_retransmission, transmission_of, entry_of, is_acked_item, complete_one}
use Rattle.law_base.proofs.Base.{by_test, and_left, and_right, and_both, or_left}
use Rattle.law_quiet.specs.Still.{flies_on, in_flight_for}

module _ (l : Lane) (k : ℕ) where
  -- If the entry is of a fact in flight on the lane, it has seen so many plans.
  abbrev is_old : Entry → Bool
  is_old e = not (flies_on l e) || nat_le k e.age

  all_changed : (g : Entry → Entry) → ((e : Entry) → is_old e ≡ true → is_old (g e) ≡ true) → (es : List Entry) → list_all is_old es ≡ true → list_all is_old (map g es) ≡ true
  all_changed g so [] h = refl
  all_changed g so (e ∷ es) h = and_both (is_old (g e)) _ (so e (and_left (is_old e) (list_all is_old es) h)) (all_changed g so es (and_right (is_old e) (list_all is_old es) h))

  all_kept : (p : Entry → Bool) (es : List Entry) → list_all is_old es ≡ true → list_all is_old (filter p es) ≡ true
  all_kept p [] h = refl
  all_kept p (e ∷ es) h =
      let rest = all_kept p es (and_right (is_old e) (list_all is_old es) h) in
      elim (p e) as (λ t. list_all is_old (if t then e ∷ filter p es else filter p es) ≡ true) [
        | true ↦ and_both (is_old e) _ (and_left (is_old e) (list_all is_old es) h) rest
        | false ↦ rest
      ]

  one_more : (es : List Entry) (x : Entry) → list_all is_old es ≡ true → is_old x ≡ true → list_all is_old (es ++ x ∷ []) ≡ true
  one_more [] x h new = and_both (is_old x) true new refl
  one_more (e ∷ es) x h new = and_both (is_old e) _ (and_left (is_old e) (list_all is_old es) h) (one_more es x (and_right (is_old e) (list_all is_old es) h) new)

  abbrev Flies : Volatile → Type 0
  Flies vol = in_flight_for k l vol ≡ true

  module _ (vol : Volatile) (old : in_flight_for k l vol ≡ true) where
    pub heard : (m : Lane) (offset : ℕ) (n : Name) → in_flight_for k l (acknowledge vol m offset n) ≡ true
    unfolding acknowledge
    heard m offset n =
        by_test Flies (list_any (λ (e : Entry). answers_frame m offset e.transmission) vol.window) _ _
        (λ t. all_changed (mark_due m offset) (λ e h. by_test (λ (x : Entry). is_old x ≡ true) (answers_frame m offset e.transmission) _ _ (λ t. h) (λ t. h)) vol.window old)
        (λ t. by_test Flies (list_any (λ (a : PendingAck). lane_eq a.lane m && (a.offset == offset)) vol.pending_acks) _ _ (λ t. old) (λ t. old))

    pub answered : (m : Lane) (n : Name) → in_flight_for k l (record vol { window = cleared m n vol.window }) ≡ true
    answered m n = all_kept _ vol.window old

    again_noted : (p : Placing) (e : Entry) → is_old e ≡ true → is_old (record_retransmission p e) ≡ true
    again_noted p e h =
        by_test (λ (x : Entry). is_old x ≡ true) (stands_at p e) (if is_some p.number then record e { number = p.number } else record e { due = true }) e
        (λ t. by_test (λ (x : Entry). is_old x ≡ true) (is_some p.number) (record e { number = p.number }) (record e { due = true }) (λ t. h) (λ t. h)) (λ t. h)

    elsewhere : (p : Placing) → lane_eq p.lane l ≡ false → is_old (entry_of p) ≡ true
    elsewhere p apart = or_left (not (flies_on l (entry_of p))) _ (ap (λ (b : Bool). not (b && is_data_entry (entry_of p))) apart)

    lane_apart : (a b : Bool) → (a && b) ≡ false → a ≡ true → b ≡ false
    lane_apart true b h e = h
    lane_apart false b h e = cc

    pub noted : (acked : List Name) (p : Placing) → (p.fresh && lane_eq p.lane l) ≡ false → in_flight_for k l (complete_one acked vol p) ≡ true
    unfolding complete_one
    noted acked p apart =
        by_test Flies p.fresh _ _
        (λ fresh. by_test Flies (list_any (transmission_eq (transmission_of p)) vol.awaiting && not (list_any (stands_at p) vol.window)) _ _
        (λ t. by_test (λ (es : List Entry). list_all is_old es ≡ true) (is_acked_item acked (transmission_of p).item) vol.window (vol.window ++ entry_of p ∷ []) (λ t. old)
        (λ t. one_more vol.window (entry_of p) old (elsewhere p (lane_apart p.fresh (lane_eq p.lane l) apart fresh)))) (λ t. old))
        (λ again. all_changed (record_retransmission p) (again_noted p) vol.window old)
