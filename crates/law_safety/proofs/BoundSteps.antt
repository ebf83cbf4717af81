-- Each call keeps this: the manager acknowledges each place at most once, and only if it was heard.
use Rattle.std.proofs.Common.{◌≡◌, ℕ, ◌+◌, ◌≤◌, Bool, true, false, ◌&&◌, List, [], ◌∷◌, ◌++◌, length, refl, sym, ◌∙◌, ap, subst, Some, inl, inr, append_assoc}
use Rattle.std.specs.Prelude.{◌==◌, map, filter, filter_map}
use Rattle.std.specs.List.{list_any, cons_option}
use Rattle.std.specs.Set.{distinct_count, is_member}
use Rattle.std.proofs.lemmas.List.{map-append}
use Rattle.std.proofs.lemmas.List.Folds.{list_any-append}
use Rattle.qkd_base.specs.Name.{Name}
use Rattle.qkd_base.specs.Lane.{lane_eq, reverse_lane}
use Rattle.qkd_base.specs.declared.lane.Lane.{Lane}
use Rattle.net_model.specs.Item.{AckItem}
use Rattle.net_model.specs.World.{Transmission, Entry, PendingAck, Volatile, no_volatile}
use Rattle.net_model.specs.Window.{transmission_eq, mark_due, acknowledge, age, is_data_entry}
use Rattle.net_model.specs.Windows.{IsAwaitedAck, is_same_ack, PlacesDiffer, has_place, answered, answered_at}
use Rattle.law_base.proofs.Base.{by_test, or_cases, or_left, or_first, or_second, or_both}
use Rattle.law_base.proofs.Lists.{transmission_from, any_at, all_at}
use Rattle.law_invariant.proofs.Places.{has_both, differ_between, differ_fewer, differ_some, differ_after, has_some}
use Rattle.law_invariant.proofs.Entries.{pending_place, answer_of}
use Rattle.law_safety.specs.Life.{AreOfPending, acknowledgements_on, pending_on}
use Rattle.law_safety.proofs.Counting.{same, at_most}
use Rattle.law_safety.proofs.Answered.{answered_has, answered_count, is_from, answers}

-- The acknowledgement of a received offset, sent over the link's other lane.
abbrev pub ack : Lane → ℕ → Name → Transmission
ack l x n = record { lane = l; item = AckItem n; received_offset = Some x }

-- A memory is fair if it acknowledges each place at most once, and if each acknowledgement that it ordered is still
-- pending.
pub record IsFair (vol : Volatile) : Type 0 where
  pub once : PlacesDiffer (answered vol)
  pub awaited : (l : Lane) (x : ℕ) (n : Name) → list_any (transmission_eq (ack l x n)) vol.awaiting ≡ true → list_any (is_same_ack (ack l x n)) vol.pending_acks ≡ true

-- The new memory is fair. Call a place silent if it wasn't heard. A silent place that wasn't acknowledged before
-- isn't acknowledged now.
pub record GoesOn (vol : Volatile) (IsSilent : Lane × ℕ → Type 0) (new : Volatile) : Type 0 where
  pub fair : IsFair new
  pub silent : (q : Lane × ℕ) → has_place (answered vol) q ≡ false → IsSilent q → has_place (answered new) q ≡ false

pub stays : (vol : Volatile) (IsSilent : Lane × ℕ → Type 0) → IsFair vol → GoesOn vol IsSilent vol
stays vol IsSilent h = record { fair = h; silent = λ q e s. e }

-- Entries that change only in age or number acknowledge the same places.

module _ (g : Entry → Entry) (change : (e : Entry) → (g e).transmission ≡ e.transmission) where
  answers_same : (es : List Entry) → filter_map answer_of (map g es) ≡ filter_map answer_of es
  answers_same [] = refl
  answers_same (e ∷ es) = λ i. cons_option (answered_at (change e i).lane (change e i).received_offset) (answers_same es i)

  pub changed : (vol : Volatile) (IsSilent : Lane × ℕ → Type 0) → IsFair vol → GoesOn vol IsSilent (record vol { window = map g vol.window })
  changed vol IsSilent h = record {
    fair = record {
      once = subst (λ (qs : List (Lane × ℕ)). PlacesDiffer (map pending_place vol.pending_acks ++ qs)) (sym (answers_same vol.window)) h.once;
      awaited = h.awaited;
    };
    silent = λ q e s. subst (λ (qs : List (Lane × ℕ)). has_place (map pending_place vol.pending_acks ++ qs) q ≡ false) (sym (answers_same vol.window)) e;
  }

-- Lemmas on a frame that is heard at an offset.

due_same : (l : Lane) (x : ℕ) (e : Entry) → (mark_due l x e).transmission ≡ e.transmission
due_same l x e = by_test (λ (y : Entry). y.transmission ≡ e.transmission) _ _ e (λ h. refl) (λ h. refl)

module _ (vol : Volatile) (IsSilent : Lane × ℕ → Type 0) (l : Lane) (x : ℕ) (n : Name) (h : IsFair vol) (other : (q : Lane × ℕ) → IsSilent q → (lane_eq l q.0 && (x == q.1)) ≡ false) where
  abbrev new : PendingAck
  new = record { lane = l; offset = x; name = n }

  abbrev with_new : Volatile
  with_new = record vol { pending_acks = vol.pending_acks ++ new ∷ [] }

  answered_is : answered with_new ≡ map pending_place vol.pending_acks ++ (l, x) ∷ filter_map answer_of vol.window
  answered_is =
      ap (λ (ps : List (Lane × ℕ)). ps ++ filter_map answer_of vol.window) (map-append pending_place vol.pending_acks (new ∷ [])) ∙
      append_assoc (map pending_place vol.pending_acks) ((l, x) ∷ []) (filter_map answer_of vol.window)

  still_awaited : (k : Lane) (y : ℕ) (m : Name) → list_any (transmission_eq (ack k y m)) vol.awaiting ≡ true → list_any (is_same_ack (ack k y m)) with_new.pending_acks ≡ true
  still_awaited k y m e = list_any-append (is_same_ack (ack k y m)) vol.pending_acks (new ∷ []) ∙ or_left (list_any (is_same_ack (ack k y m)) vol.pending_acks) _ (h.awaited k y m e)

  -- A silent place that wasn't acknowledged before isn't acknowledged after the new place was added.
  none_more : (q : Lane × ℕ) → has_place (answered vol) q ≡ false → IsSilent q → has_place (answered with_new) q ≡ false
  none_more q e s =
      let parts = sym (list_any-append (λ (p : Lane × ℕ). lane_eq p.0 q.0 && (p.1 == q.1)) (map pending_place vol.pending_acks) (filter_map answer_of vol.window)) ∙ e in
      subst (λ (ps : List (Lane × ℕ)). has_place ps q ≡ false) (sym answered_is)
      (has_both (map pending_place vol.pending_acks) ((l, x) ∷ filter_map answer_of vol.window) q
      (or_first (has_place (map pending_place vol.pending_acks) q) (has_place (filter_map answer_of vol.window) q) parts)
      (or_both (lane_eq l q.0 && (x == q.1)) (has_place (filter_map answer_of vol.window) q) (other q s)
      (or_second (has_place (map pending_place vol.pending_acks) q) (has_place (filter_map answer_of vol.window) q) parts)))

  becomes_pending : list_any (answers l x) vol.window ≡ false → list_any (is_from l x) vol.pending_acks ≡ false → GoesOn vol IsSilent with_new
  becomes_pending free none = record {
    fair = record {
      once = subst PlacesDiffer (sym answered_is)
          (differ_between (map pending_place vol.pending_acks) (filter_map answer_of vol.window) (l, x) h.once
          (answered_has vol l x ∙ or_both (list_any (is_from l x) vol.pending_acks) (list_any (answers l x) vol.window) none free));
      awaited = still_awaited;
    };
    silent = none_more;
  }

  pub hears : GoesOn vol IsSilent (acknowledge vol l x n)
  unfolding acknowledge
  hears =
      by_test (GoesOn vol IsSilent) (list_any (answers l x) vol.window) _ _ (λ e. changed (mark_due l x) (due_same l x) vol IsSilent h)
      (λ free. by_test (GoesOn vol IsSilent) (list_any (is_from l x) vol.pending_acks) _ _ (λ e. stays vol IsSilent h) (λ none. becomes_pending free none))

-- Lemmas on entries that leave the window.

pub fewer : (keep : Entry → Bool) (vol : Volatile) (IsSilent : Lane × ℕ → Type 0) → IsFair vol → GoesOn vol IsSilent (record vol { window = filter keep vol.window })
fewer keep vol IsSilent h =
    let pending : List (Lane × ℕ) = map pending_place vol.pending_acks in
    record {
      fair = record {
        once = differ_fewer pending (filter_map answer_of vol.window) (filter_map answer_of (filter keep vol.window)) (λ q e. has_some answer_of keep vol.window q e)
            (differ_some answer_of keep vol.window (differ_after pending (filter_map answer_of vol.window) h.once)) h.once;
        awaited = h.awaited;
      };
      silent = λ q e s.
          let parts = sym (list_any-append (λ (p : Lane × ℕ). lane_eq p.0 q.0 && (p.1 == q.1)) pending (filter_map answer_of vol.window)) ∙ e in
          has_both pending (filter_map answer_of (filter keep vol.window)) q (or_first (has_place pending q) (has_place (filter_map answer_of vol.window) q) parts)
          (has_some answer_of keep vol.window q (or_second (has_place pending q) (has_place (filter_map answer_of vol.window) q) parts));
    }

-- Lemmas on a plan.

age_same : (e : Entry) → (age e).transmission ≡ e.transmission
age_same e = by_test (λ (y : Entry). y.transmission ≡ e.transmission) (is_data_entry e) _ e (λ h. refl) (λ h. refl)

module _ (vol : Volatile) (IsSilent : Lane × ℕ → Type 0) (ts : List Transmission) (g : Entry → Entry) (change : (e : Entry) → (g e).transmission ≡ e.transmission) (h : IsFair vol)
    (may : AreOfPending vol ts) where
  abbrev aged : Volatile
  aged = record vol { window = map age vol.window }

  ordered : (l : Lane) (x : ℕ) (n : Name) → list_any (transmission_eq (ack l x n)) ts ≡ true → list_any (is_same_ack (ack l x n)) vol.pending_acks ≡ true
  ordered l x n e =
      let r = any_at (transmission_eq (ack l x n)) ts e in
      let is : r.1 ≡ ack l x n = sym (transmission_from (ack l x n) r.1 r.3) in
      subst (λ (t : Transmission). IsAwaitedAck vol t t.received_offset) is (all_at (λ (t : Transmission). IsAwaitedAck vol t t.received_offset) ts r.0 r.1 may r.2)

  pub plans : GoesOn vol IsSilent (record vol { window = map g (map age vol.window); awaiting = vol.awaiting ++ ts })
  plans =
      let first = changed age age_same vol IsSilent h in
      let next = changed g change aged IsSilent first.fair in
      record {
        fair = record {
          once = next.fair.once;
          awaited = λ l x n e. elim (or_cases (list_any (transmission_eq (ack l x n)) vol.awaiting) (list_any (transmission_eq (ack l x n)) ts)
              (sym (list_any-append (transmission_eq (ack l x n)) vol.awaiting ts) ∙ e)) [
                | inl old ↦ h.awaited l x n old
                | inr new ↦ ordered l x n new
              ];
        };
        silent = λ q e s. next.silent q (first.silent q e s) s;
      }

-- The empty memory is fair; and the bound that fairness gives.

pub first_fair : IsFair no_volatile
first_fair = record { once = tt; awaited = λ l x n e. cc }

pub few_answered : (l : Lane) (vol : Volatile) (heard : List ℕ) → IsFair vol → ((x : ℕ) → is_member same heard x ≡ false → has_place (answered vol) (reverse_lane l, x) ≡ false) →
    length (acknowledgements_on l vol) + length (pending_on l vol) ≤ distinct_count same heard
few_answered l vol heard h silent =
    subst (λ (n : ℕ). n ≤ distinct_count same heard) (answered_count l vol) (at_most (reverse_lane l) (answered vol) heard h.once silent)
