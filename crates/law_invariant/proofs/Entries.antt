-- Windows whose entries change in age or number, and windows that lose some entries.
use Rattle.std.proofs.Common.{◌≡◌, ℕ, Bool, true, false, List, [], ◌∷◌, ◌++◌, refl, sym, subst, Option, Some, append-nil}
use Rattle.std.specs.Prelude.{slice_get, map, filter, filter_map}
use Rattle.std.specs.List.{cons_option}
use Rattle.qkd_base.specs.Name.{Name}
use Rattle.qkd_base.specs.declared.lane.Lane.{Lane}
use Rattle.net_model.specs.World.{Network, World, Entry, PendingAck, Volatile}
use Rattle.net_model.specs.Window.{age, is_data_entry, sent_again, mark_due, cleared}
use Rattle.net_model.specs.Windows.{IsEntry, IsVolatile, PlacesDiffer, place_of, answered_at}
use Rattle.law_base.proofs.Base.{by_test}
use Rattle.law_base.proofs.Lists.{mapped_at, kept_at}
use Rattle.law_invariant.proofs.Places.{differ_kept, differ_fewer, differ_some, has_some, differ_after}

-- The frame that a pending acknowledgement answers, and the one that an entry answers.
abbrev pub pending_place : PendingAck → Lane × ℕ
pending_place a = (a.lane, a.offset)

abbrev pub answer_of : Entry → Option (Lane × ℕ)
answer_of e = answered_at e.transmission.lane e.transmission.received_offset

-- The change keeps the transmission and the offset of each entry.
pub record IsChange (g : Entry → Entry) : Type 0 where
  pub transmission : (e : Entry) → (g e).transmission ≡ e.transmission
  pub offset : (e : Entry) → (g e).offset ≡ e.offset

module _ (g : Entry → Entry) (same : IsChange g) where
  places_same : (es : List Entry) → map place_of (map g es) ≡ map place_of es
  places_same [] = refl
  places_same (e ∷ es) = λ i. ((same.transmission e i).lane, same.offset e i) ∷ places_same es i

  answers_same : (es : List Entry) → filter_map answer_of (map g es) ≡ filter_map answer_of es
  answers_same [] = refl
  answers_same (e ∷ es) = λ i. cons_option (answered_at (same.transmission e i).lane (same.transmission e i).received_offset) (answers_same es i)

  -- Such a change keeps the manager's memory consistent.
  pub changed_keeps : (net : Network) (w : World) (v : ℕ) (vol : Volatile) → ((n : ℕ) (e : Entry) → slice_get vol.window n ≡ Some e → IsEntry net w v (g e)) →
      IsVolatile net w v vol → IsVolatile net w v (record vol { window = map g vol.window })
  changed_keeps net w v vol each h = record {
    entries = λ n e at. let r = mapped_at g vol.window e n at in subst (IsEntry net w v) r.2 (each n r.0 r.1);
    places = subst PlacesDiffer (sym (places_same vol.window)) h.places;
    pending = h.pending;
    once = subst (λ (qs : List (Lane × ℕ)). PlacesDiffer (map pending_place vol.pending_acks ++ qs)) (sym (answers_same vol.window)) h.once;
    awaiting = h.awaiting;
  }

-- An entry whose age changes stays a valid entry.
pub aged_entry : (net : Network) (w : World) (v n : ℕ) (due : Bool) (e : Entry) → IsEntry net w v e → IsEntry net w v (record e { age = n; due = due })
aged_entry net w v n due e h = record { shaped = h.shaped; site = h.site; lane = h.lane; number = h.number; frame = h.frame; octets = h.octets; wire = h.wire }

age_change : IsChange age
age_change = record {
  transmission = λ e. by_test (λ (x : Entry). x.transmission ≡ e.transmission) (is_data_entry e) _ e (λ h. refl) (λ h. refl);
  offset = λ e. by_test (λ (x : Entry). x.offset ≡ e.offset) (is_data_entry e) _ e (λ h. refl) (λ h. refl);
}

pub age_keeps : (net : Network) (w : World) (v : ℕ) (vol : Volatile) → IsVolatile net w v vol → IsVolatile net w v (record vol { window = map age vol.window })
age_keeps net w v vol h = changed_keeps age age_change net w v vol
    (λ n e at. by_test (IsEntry net w v) (is_data_entry e) _ e (λ x. aged_entry net w v _ _ e (h.entries n e at)) (λ x. h.entries n e at)) h

again_change : (out : List Entry) → IsChange (sent_again out)
again_change out = record {
  transmission = λ e. by_test (λ (x : Entry). x.transmission ≡ e.transmission) _ _ e (λ h. refl) (λ h. refl);
  offset = λ e. by_test (λ (x : Entry). x.offset ≡ e.offset) _ _ e (λ h. refl) (λ h. refl);
}

pub again_keeps : (net : Network) (w : World) (v : ℕ) (vol : Volatile) (out : List Entry) → IsVolatile net w v vol →
    IsVolatile net w v (record vol { window = map (sent_again out) vol.window })
again_keeps net w v vol out h = changed_keeps (sent_again out) (again_change out) net w v vol
    (λ n e at. by_test (IsEntry net w v) _ _ e (λ x. aged_entry net w v 0 false e (h.entries n e at)) (λ x. h.entries n e at)) h

due_change : (l : Lane) (offset : ℕ) → IsChange (mark_due l offset)
due_change l offset = record {
  transmission = λ e. by_test (λ (x : Entry). x.transmission ≡ e.transmission) _ _ e (λ h. refl) (λ h. refl);
  offset = λ e. by_test (λ (x : Entry). x.offset ≡ e.offset) _ _ e (λ h. refl) (λ h. refl);
}

pub due_keeps : (net : Network) (w : World) (v : ℕ) (vol : Volatile) (l : Lane) (offset : ℕ) → IsVolatile net w v vol →
    IsVolatile net w v (record vol { window = map (mark_due l offset) vol.window })
due_keeps net w v vol l offset h = changed_keeps (mark_due l offset) (due_change l offset) net w v vol
    (λ n e at. by_test (IsEntry net w v) _ _ e (λ x. aged_entry net w v e.age true e (h.entries n e at)) (λ x. h.entries n e at)) h

-- Lemmas on windows that lose some entries.
pub fewer_keeps : (net : Network) (w : World) (v : ℕ) (vol : Volatile) (keep : Entry → Bool) → IsVolatile net w v vol → IsVolatile net w v (record vol { window = filter keep vol.window })
fewer_keeps net w v vol keep h = record {
  entries = λ n e at. let r = kept_at keep vol.window e n at in h.entries r.0 e r.1;
  places = subst PlacesDiffer (append-nil (map place_of (filter keep vol.window)))
      (differ_kept place_of keep vol.window [] (subst PlacesDiffer (sym (append-nil (map place_of vol.window))) h.places));
  pending = h.pending;
  once = differ_fewer (map pending_place vol.pending_acks) (filter_map answer_of vol.window) (filter_map answer_of (filter keep vol.window))
      (λ q e. has_some answer_of keep vol.window q e)
      (differ_some answer_of keep vol.window (differ_after (map pending_place vol.pending_acks) (filter_map answer_of vol.window) h.once)) h.once;
  awaiting = h.awaiting;
}

-- The entries of an acknowledged fact towards that neighbour are removed.
pub cleared_keeps : (net : Network) (w : World) (v : ℕ) (vol : Volatile) (l : Lane) (n : Name) → IsVolatile net w v vol → IsVolatile net w v (record vol { window = cleared l n vol.window })
cleared_keeps net w v vol l n h = fewer_keeps net w v vol _ h
