-- A plan puts what is due again. So each frame that is no longer due is put again, or keeps its number.
use Rattle.std.proofs.Common.{◌≡◌, ℕ, ◌+◌, Bool, true, ◌&&◌, ◌||◌, List, [], ◌∷◌, map, refl, sym, ◌∙◌, ap, subst, inl, inr, Option, Some}
use Rattle.std.specs.Prelude.{◌==◌, nat_le, suc, zero, slice_get, filter, if◌then◌else◌}
use Rattle.std.specs.List.{list_any, AllByRecursion}
use Rattle.std.proofs.lemmas.List.Folds.{list_any-append}
use Rattle.qkd_base.specs.Lane.{lane_eq}
use Rattle.qkd_base.specs.declared.lane.Lane.{Lane}
use Rattle.net_model.specs.Item.{Item}
use Rattle.net_model.specs.Site.{sender}
use Rattle.net_model.specs.World.{Network, World, Allocation, Entry, Outgoing, Transmission}
use Rattle.net_model.specs.Needed.{masked, view_of}
use Rattle.net_model.specs.Handle.{frame_at, outgoing_repeat, with_repeats}
use Rattle.net_model.specs.Window.{is_data_entry, age, sent_again}
use Rattle.net_model.specs.Plan.{plan}
use Rattle.net_model.specs.Frames.{offset_or_zero}
use Rattle.net_model.specs.Windows.{IsEntry}
use Rattle.net_model.specs.Invariant.{Conserved}
use Rattle.law_base.proofs.Base.{by_test, and_left, and_right, or_cases, or_left, or_right, eq_same, eq_from, lane_eq_from}
use Rattle.law_base.proofs.Owners.{frame_at_finds}
use Rattle.law_quiet.proofs.Tracks.{puts_again, again_at, IsFollowed, Due, Again, Waits, Done, IsEntryKept, again_in}

any_mapped : {A B : Type 0} (r p : A → Bool) (q : B → Bool) (f : A → B) → ((x : A) → r x ≡ true → p x ≡ true) → ((x : A) → r x ≡ true → q (f x) ≡ true) → (xs : List A) →
    list_any r xs ≡ true → list_any q (map f (filter p xs)) ≡ true
any_mapped r p q f passes found [] h = cc
any_mapped {A} {B} r p q f passes found (x ∷ xs) h = elim (or_cases (r x) (list_any r xs) h) [
  | inl is ↦ subst (λ (t : Bool). list_any q (map f (if t then x ∷ filter p xs else filter p xs)) ≡ true) (sym (passes x is)) (or_left (q (f x)) _ (found x is))
  | inr later ↦
      let rest = any_mapped r p q f passes found xs later in
      by_test (λ (ys : List A). list_any q (map f ys) ≡ true) (p x) (x ∷ filter p xs) (filter p xs) (λ t. or_right (q (f x)) _ rest) (λ t. rest)
]

-- The entry of this place is among those that are sent again.
abbrev stands_in : Lane → ℕ → Entry → Bool
stands_in l x e = lane_eq e.transmission.lane l && (e.offset == x)

module _ (net : Network) (w : World) (c : Conserved net w) (l : Lane) where
  -- The frame of an entry is found again by its offset.
  finds : (x j : ℕ) (a : Allocation) → slice_get (w.frames l) j ≡ Some a → a.offset ≡ x → (y : Entry) → y.offset ≡ x → puts_again (w.frames l) x (outgoing_repeat (w.frames l) y) ≡ true
  finds x j a at here y same =
      let place : frame_at (w.frames l) y.offset ≡ j =
      ap (frame_at (w.frames l)) (same ∙ sym here) ∙ frame_at_finds w.durable.facts (w.durable.own l) (w.frames l) _ (c.now.owned l) j a at in
      ap (λ (k : ℕ). offset_or_zero (slice_get (w.frames l) k) == x) place ∙ ap (λ (o : Option Allocation). offset_or_zero o == x) at ∙ ap (λ (y : ℕ). y == x) here ∙ eq_same x

  repeated : (x j : ℕ) (a : Allocation) → slice_get (w.frames l) j ≡ Some a → a.offset ≡ x → (out : List Entry) → list_any (stands_in l x) out ≡ true →
      list_any (puts_again (w.frames l) x) (with_repeats out w.frames w.outgoing l) ≡ true
  repeated x j a at here [] on = cc
  repeated x j a at here (e ∷ es) on =
      list_any-append (puts_again (w.frames l) x) (w.outgoing l) _ ∙
      or_right (list_any (puts_again (w.frames l) x) (w.outgoing l)) _
      (any_mapped (stands_in l x) (λ (y : Entry). lane_eq y.transmission.lane l) (puts_again (w.frames l) x) (outgoing_repeat (w.frames l))
      (λ y is. and_left (lane_eq y.transmission.lane l) (y.offset == x) is)
      (λ y is. finds x j a at here y (eq_from y.offset x (and_right (lane_eq y.transmission.lane l) (y.offset == x) is))) (e ∷ es) on)

  more_waits : (q : Outgoing → Bool) (out : List Entry) → list_any q (w.outgoing l) ≡ true → list_any q (with_repeats out w.frames w.outgoing l) ≡ true
  more_waits q [] on = on
  more_waits q (e ∷ es) on = list_any-append q (w.outgoing l) _ ∙ or_left (list_any q (w.outgoing l)) _ on

  -- Once an effect is committed, what was put again still is.
  pub committed_again : (out : List Entry) (x : ℕ) → again_in net l w x ≡ true →
      again_at l (w.frames l) (with_repeats out w.frames w.outgoing l) (w.placings (sender net.site l)) x ≡ true
  committed_again out x is = elim (or_cases (list_any (puts_again (w.frames l) x) (w.outgoing l)) _ is) [
    | inl waits ↦ or_left (list_any (puts_again (w.frames l) x) (with_repeats out w.frames w.outgoing l)) _ (more_waits (puts_again (w.frames l) x) out waits)
    | inr told ↦ or_right (list_any (puts_again (w.frames l) x) (with_repeats out w.frames w.outgoing l)) _ told
  ]

  module _ (class : Transmission → Bool) (passed : ℕ → Bool) (done : Item → ℕ → Bool) where
    aged_kept : (again : ℕ → Bool) (e : Entry) → IsEntryKept l class again passed done e → IsEntryKept l class again passed done (age e)
    aged_kept again e kept =
        by_test (IsEntryKept l class again passed done) (is_data_entry e) _ e
        (λ t lane of. older (kept lane of)) (λ t. kept)
      where
        older : IsFollowed again passed done e → IsFollowed again passed done (record e { age = e.age + 1; due = e.due || nat_le 4 (e.age + 1) })
        older (Due is) = Due (or_left e.due _ is)
        older (Again is) = Again is
        older (Waits number put waits) = Waits number put waits
        older (Done is) = Done is

    abbrev after : List Entry → ℕ → Bool
    after out x = again_at l (w.frames l) (with_repeats out w.frames w.outgoing l) (w.placings (sender net.site l)) x

    wider : (out : List Entry) (e : Entry) → IsFollowed (again_in net l w) passed done e → IsFollowed (after out) passed done e
    wider out e (Due is) = Due is
    wider out e (Again is) = Again (committed_again out e.offset is)
    wider out e (Waits number put waits) = Waits number put waits
    wider out e (Done is) = Done is

    sent_kept : (out : List Entry) (e : Entry) (j : ℕ) (a : Allocation) → slice_get (w.frames e.transmission.lane) j ≡ Some a → a.offset ≡ e.offset →
        IsEntryKept l class (again_in net l w) passed done e → IsEntryKept l class (after out) passed done (sent_again out e)
    sent_kept out e j a at here kept =
        by_test (IsEntryKept l class (after out) passed done) (list_any (λ (x : Entry). lane_eq x.transmission.lane e.transmission.lane && (x.offset == e.offset)) out) _ e
        (λ out-again lane of.
        let on : e.transmission.lane ≡ l = lane_eq_from e.transmission.lane l lane in
        let listed : list_any (stands_in l e.offset) out ≡ true = ap (λ (m : Lane). list_any (stands_in m e.offset) out) (sym on) ∙ out-again in
        Again (or_left (list_any (puts_again (w.frames l) e.offset) (with_repeats out w.frames w.outgoing l)) _
        (repeated e.offset j a (ap (λ (m : Lane). slice_get (w.frames m) j) (sym on) ∙ at) here out listed)))
        (λ not-again lane of. wider out e (kept lane of))

    -- So a plan of the lane's sender follows each entry.
    all_kept : (out : List Entry) (es : List Entry) → ((i : ℕ) (e : Entry) → slice_get es i ≡ Some e → IsEntry net w (sender net.site l) e) →
        AllByRecursion (IsEntryKept l class (again_in net l w) passed done) es → AllByRecursion (IsEntryKept l class (after out) passed done) (map (sent_again out) (map age es))
    all_kept out [] each h = tt
    all_kept out (e ∷ es) each h =
        let is : IsEntry net w (sender net.site l) e = each zero e refl in (
          sent_kept out (age e) is.number (record { offset = e.offset; item = e.transmission.item })
              (by_test (λ (x : Entry). slice_get (w.frames x.transmission.lane) is.number ≡ Some (record { offset = e.offset; item = e.transmission.item })) (is_data_entry e) _ e (λ t. is.frame) (λ t. is.frame))
              (by_test (λ (x : Entry). e.offset ≡ x.offset) (is_data_entry e) _ e (λ t. refl) (λ t. refl)) (aged_kept (again_in net l w) e h.0),
          all_kept out es (λ i x at. each (suc i) x at) h.1,
        )

    pub plan_kept : AllByRecursion (IsEntryKept l class (again_in net l w) passed done) (w.volatile (sender net.site l)).window →
        AllByRecursion (IsEntryKept l class (after (plan net.site w.link_up (view_of net w (sender net.site l))).repeats) passed done)
        (plan net.site w.link_up (view_of net w (sender net.site l))).volatile.window
    unfolding plan view_of masked
    plan_kept h = all_kept _ (w.volatile (sender net.site l)).window (λ i e at. (c.volatile (sender net.site l)).entries i e at) h
