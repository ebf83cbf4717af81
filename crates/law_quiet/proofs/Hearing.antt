-- A frame that a manager heard has an acknowledgement, pending or sent, as long as the manager lives.
use Rattle.std.proofs.Common.{◌≡◌, ℕ, Bool, true, false, not, ◌&&◌, ◌||◌, List, [], ◌∷◌, ◌++◌, map, refl, sym, ◌∙◌, ap, subst, Option, Some, None, inl, inr}
use Rattle.std.specs.Prelude.{◌==◌, suc, zero, slice_get, filter, if◌then◌else◌}
use Rattle.std.specs.List.{list_any}
use Rattle.std.proofs.lemmas.List.Folds.{list_any-append}
use Rattle.qkd_base.specs.Name.{Name}
use Rattle.qkd_base.specs.Lane.{lane_eq, reverse_lane}
use Rattle.qkd_base.specs.declared.lane.Lane.{Lane}
use Rattle.net_model.specs.declared.placing.Placing.{Placing}
use Rattle.net_model.specs.Item.{Item, AckItem, item_of, item_name, is_data_of}
use Rattle.net_model.specs.World.{Transmission, Entry, PendingAck, Volatile}
use Rattle.net_model.specs.Window.{offset_eq, transmission_eq, answers_frame, mark_due, acknowledge, cleared, age, sent_again, stands_at, record_retransmission, transmission_of, entry_of, is_acked_item, is_pending_of, complete_one, complete}
use Rattle.net_model.specs.Windows.{IsShaped}
use Rattle.law_base.proofs.Base.{by_test, and_left, and_right, and_both, or_cases, or_left, or_right, not_both, eq_same, eq_from, lane_same, lane_eq_from}
use Rattle.law_base.proofs.Lists.{offset_from}
use Rattle.law_quiet.proofs.Changes.{marked_same, aged_same, again_same, noted_same, any_sent}

-- An acknowledgement of the frame was sent, or is pending.

abbrev pub is_sent_for : Lane → ℕ → Entry → Bool
is_sent_for l x e = answers_frame l x e.transmission

abbrev pub pends_for : Lane → ℕ → PendingAck → Bool
pends_for l x a = lane_eq a.lane l && (a.offset == x)

abbrev pub is_answered : Lane → ℕ → Volatile → Bool
is_answered l x vol = list_any (is_sent_for l x) vol.window || list_any (pends_for l x) vol.pending_acks

any_filtered : {A : Type 0} (p q : A → Bool) (xs : List A) → ((i : ℕ) (x : A) → slice_get xs i ≡ Some x → q x ≡ true → p x ≡ true) → list_any q xs ≡ true → list_any q (filter p xs) ≡ true
any_filtered p q [] keeps h = cc
any_filtered {A} p q (x ∷ xs) keeps h = elim (or_cases (q x) (list_any q xs) h) [
  | inl is ↦ subst (λ (t : Bool). list_any q (if t then x ∷ filter p xs else filter p xs) ≡ true) (sym (keeps zero x refl is)) (or_left (q x) _ is)
  | inr later ↦
      let rest = any_filtered p q xs (λ i y at. keeps (suc i) y at) later in
      by_test (λ (ys : List A). list_any q ys ≡ true) (p x) (x ∷ filter p xs) (filter p xs) (λ t. or_right (q x) _ rest) (λ t. rest)
]

module _ (l : Lane) (x : ℕ) where
  abbrev Answered : Volatile → Type 0
  Answered vol = is_answered l x vol ≡ true

  by_entries : (vol new : Volatile) → (list_any (is_sent_for l x) vol.window ≡ true → list_any (is_sent_for l x) new.window ≡ true) →
      (list_any (pends_for l x) vol.pending_acks ≡ true → Answered new) → Answered vol → Answered new
  by_entries vol new sent pends h = elim (or_cases (list_any (is_sent_for l x) vol.window) _ h) [
    | inl was ↦ or_left (list_any (is_sent_for l x) new.window) _ (sent was)
    | inr was ↦ pends was
  ]

  -- A frame that comes is answered, and others stay so.

  pub heard_here : (vol : Volatile) (n : Name) → Answered (acknowledge vol l x n)
  unfolding acknowledge
  heard_here vol n =
      by_test Answered (list_any (is_sent_for l x) vol.window) _ _
      (λ t. or_left (list_any (is_sent_for l x) (map (mark_due l x) vol.window)) _ (any_sent (answers_frame l x) (mark_due l x) (marked_same l x) vol.window ∙ t))
      (λ t. by_test Answered (list_any (pends_for l x) vol.pending_acks) _ _ (λ k. or_right (list_any (is_sent_for l x) vol.window) _ k)
      (λ k. or_right (list_any (is_sent_for l x) vol.window) _
      (list_any-append (pends_for l x) vol.pending_acks (record { lane = l; offset = x; name = n } ∷ []) ∙
      or_right (list_any (pends_for l x) vol.pending_acks) _ (or_left (lane_eq l l && (x == x)) false (and_both (lane_eq l l) (x == x) (lane_same l) (eq_same x))))))

  pub heard_stays : (vol : Volatile) (m : Lane) (y : ℕ) (n : Name) → Answered vol → Answered (acknowledge vol m y n)
  unfolding acknowledge
  heard_stays vol m y n h =
      by_test Answered (list_any (is_sent_for m y) vol.window) _ _
      (λ t. by_entries vol (record vol { window = map (mark_due m y) vol.window }) (λ was. any_sent (answers_frame l x) (mark_due m y) (marked_same m y) vol.window ∙ was)
      (λ was. or_right (list_any (is_sent_for l x) (map (mark_due m y) vol.window)) _ was) h)
      (λ t. by_test Answered (list_any (pends_for m y) vol.pending_acks) _ _ (λ k. h)
      (λ k. by_entries vol (record vol { pending_acks = vol.pending_acks ++ record { lane = m; offset = y; name = n } ∷ [] }) (λ was. was)
      (λ was. or_right (list_any (is_sent_for l x) vol.window) _
      (list_any-append (pends_for l x) vol.pending_acks (record { lane = m; offset = y; name = n } ∷ []) ∙ or_left (list_any (pends_for l x) vol.pending_acks) _ was)) h))

  -- An acknowledgement that comes removes only entries of facts.
  pub cleared_stays : (vol : Volatile) (m : Lane) (n : Name) → ((i : ℕ) (e : Entry) → slice_get vol.window i ≡ Some e → IsShaped e.transmission) → Answered vol →
      Answered (record vol { window = cleared m n vol.window })
  cleared_stays vol m n shaped h =
      by_entries vol (record vol { window = cleared m n vol.window })
      (any_filtered (λ (e : Entry). not (lane_eq e.transmission.lane (reverse_lane m) && is_data_of n e.transmission.item)) (is_sent_for l x) vol.window
      (λ i e at sent. other (lane_eq e.transmission.lane (reverse_lane m)) e.transmission (shaped i e at) (offset_from e.transmission.received_offset (Some x) (and_right (lane_eq e.transmission.lane (reverse_lane l)) _ sent))))
      (λ was. or_right (list_any (is_sent_for l x) (cleared m n vol.window)) _ was) h
    where
      never : (b : Bool) → not (b && false) ≡ true
      never true = refl
      never false = refl

      other : (b : Bool) (t : Transmission) → IsShaped t → t.received_offset ≡ Some x → not (b && is_data_of n t.item) ≡ true
      other b t shape at =
          let is : t.item ≡ AckItem (item_name t.item) = shape ∙ ap (λ (o : Option ℕ). item_of o (item_name t.item)) at in
          ap (λ (i : Item). not (b && is_data_of n i)) is ∙ never b

  pub planned_stays : (vol : Volatile) (out : List Entry) (awaiting : List Transmission) → Answered vol →
      Answered (record vol { window = map (sent_again out) (map age vol.window); awaiting = awaiting })
  planned_stays vol out awaiting h =
      by_entries vol (record vol { window = map (sent_again out) (map age vol.window); awaiting = awaiting })
      (λ was. any_sent (answers_frame l x) (sent_again out) (again_same out) (map age vol.window) ∙ any_sent (answers_frame l x) age aged_same vol.window ∙ was)
      (λ was. or_right (list_any (is_sent_for l x) (map (sent_again out) (map age vol.window))) _ was) h

  -- A pending acknowledgement stays pending, or becomes an entry.

  none_pends : (t : Transmission) (acks : List PendingAck) → answers_frame l x t ≡ false → list_any (pends_for l x) acks ≡ true → list_any (pends_for l x) (filter (λ a. not (is_pending_of t a)) acks) ≡ true
  none_pends t acks other on =
      any_filtered (λ a. not (is_pending_of t a)) (pends_for l x) acks
      (λ i a at is. ap not (ap (λ (m : Lane). answers_frame m a.offset t) (lane_eq_from a.lane l (and_left (lane_eq a.lane l) (a.offset == x) is)) ∙
      ap (λ (y : ℕ). answers_frame l y t) (eq_from a.offset x (and_right (lane_eq a.lane l) (a.offset == x) is)) ∙ other)) on

  unacked : (acked : List Name) (n : Name) (o : Option ℕ) → o ≡ Some x → is_acked_item acked (item_of o n) ≡ false
  unacked acked n None is = cc
  unacked acked n (Some y) is = refl

  one_more : (vol : Volatile) (acked : List Name) (p : Placing) → list_any (is_sent_for l x) vol.window ≡ true →
      list_any (is_sent_for l x) (if is_acked_item acked (transmission_of p).item then vol.window else vol.window ++ entry_of p ∷ []) ≡ true
  one_more vol acked p on =
      by_test (λ (es : List Entry). list_any (is_sent_for l x) es ≡ true) (is_acked_item acked (transmission_of p).item) vol.window (vol.window ++ entry_of p ∷ []) (λ k. on)
      (λ k. list_any-append (is_sent_for l x) vol.window (entry_of p ∷ []) ∙ or_left (list_any (is_sent_for l x) vol.window) _ on)

  it_is : (vol : Volatile) (acked : List Name) (p : Placing) → answers_frame l x (transmission_of p) ≡ true →
      list_any (is_sent_for l x) (if is_acked_item acked (transmission_of p).item then vol.window else vol.window ++ entry_of p ∷ []) ≡ true
  it_is vol acked p is =
      by_test (λ (es : List Entry). list_any (is_sent_for l x) es ≡ true) (is_acked_item acked (transmission_of p).item) vol.window (vol.window ++ entry_of p ∷ [])
      (λ k. absurd (not_both (is_acked_item acked (transmission_of p).item) k
      (unacked acked p.name p.ack_of (offset_from p.ack_of (Some x) (and_right (lane_eq p.lane (reverse_lane l)) (offset_eq p.ack_of (Some x)) is)))))
      (λ k. list_any-append (is_sent_for l x) vol.window (entry_of p ∷ []) ∙ or_right (list_any (is_sent_for l x) vol.window) _ (or_left (answers_frame l x (transmission_of p)) false is))

  abbrev after : List Name → Volatile → Placing → Volatile
  after acked vol p = record {
    window = if is_acked_item acked (transmission_of p).item then vol.window else vol.window ++ entry_of p ∷ [];
    pending_acks = filter (λ a. not (is_pending_of (transmission_of p) a)) vol.pending_acks;
    awaiting = filter (λ y. not (transmission_eq (transmission_of p) y)) vol.awaiting;
  }

  placed : (acked : List Name) (vol : Volatile) (p : Placing) → Answered vol → Answered (after acked vol p)
  placed acked vol p h =
      by_entries vol (after acked vol p) (one_more vol acked p)
      (λ was. elim (answers_frame l x (transmission_of p)) as (λ t. answers_frame l x (transmission_of p) ≡ t → Answered (after acked vol p)) [
        | true ↦ λ is. or_left (list_any (is_sent_for l x) (after acked vol p).window) _ (it_is vol acked p is)
        | false ↦ λ other. or_right (list_any (is_sent_for l x) (after acked vol p).window) _ (none_pends (transmission_of p) vol.pending_acks other was)
      ] refl) h

  one_noted : (acked : List Name) (vol : Volatile) (p : Placing) → Answered vol → Answered (complete_one acked vol p)
  unfolding complete_one
  one_noted acked vol p h =
      by_test Answered p.fresh _ _
      (λ fresh. by_test Answered (list_any (transmission_eq (transmission_of p)) vol.awaiting && not (list_any (stands_at p) vol.window)) _ _
      (λ t. placed acked vol p h) (λ t. h))
      (λ again. by_entries vol (record vol { window = map (record_retransmission p) vol.window })
      (λ was. any_sent (answers_frame l x) (record_retransmission p) (noted_same p) vol.window ∙ was)
      (λ was. or_right (list_any (is_sent_for l x) (map (record_retransmission p) vol.window)) _ was) h)

  pub noted_stays : (acked : List Name) (ps : List Placing) (vol : Volatile) → Answered vol → Answered (complete acked vol ps)
  unfolding complete
  noted_stays acked [] vol h = h
  noted_stays acked (p ∷ ps) vol h = noted_stays acked ps (complete_one acked vol p) (one_noted acked vol p h)
