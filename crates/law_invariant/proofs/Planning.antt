-- What a plan leaves in the manager's memory, and what it adds to the orders and to the frames that may be put.
use Rattle.std.proofs.Common.{◌≡◌, ℕ, zero, suc, true, false, ◌&&◌, List, [], ◌∷◌, ◌++◌, refl, sym, ◌∙◌, ap, subst, Some, ◌⊎◌, inl, inr, append-nil}
use Rattle.std.specs.Prelude.{nat_lt, slice_get, map, filter, take, if◌then◌else◌}
use Rattle.std.specs.List.{flat_map, AllByRecursion}
use Rattle.qkd_base.specs.Lane.{lane_eq}
use Rattle.qkd_base.specs.declared.lane.Lane.{Lane}
use Rattle.net_model.specs.World.{Network, World, Allocation, Transmission, Entry, Outgoing, Volatile}
use Rattle.net_model.specs.Ownership.{IsWired}
use Rattle.net_model.specs.View.{View, Port}
use Rattle.net_model.specs.Needed.{view_of}
use Rattle.net_model.specs.Handle.{with_orders, with_repeats, outgoing_repeat, frame_at}
use Rattle.net_model.specs.Window.{age, insert_entry, by_offset, repeats_on}
use Rattle.net_model.specs.Decision.{Effect}
use Rattle.net_model.specs.Plan.{plan}
use Rattle.net_model.specs.Windows.{IsShaped, IsEntry, IsPosted, IsVolatile}
use Rattle.net_model.specs.Invariant.{Conserved}
use Rattle.law_base.proofs.Base.{lane_eq_from}
use Rattle.law_base.proofs.Lists.{mapped_at, kept_at, both_cases, all_both, all_kept, all_at, all_from}
use Rattle.law_base.proofs.Owners.{frame_at_finds}
use Rattle.law_invariant.proofs.Seen.{seen, seen_is}
use Rattle.law_invariant.proofs.Orders.{on, with_orders_is, IsOrder, plan_order_at}
use Rattle.law_invariant.proofs.Entries.{age_keeps, again_keeps}

-- Repeats are entries of the window.

all_taken : {A : Type 0} (P : A → Type 0) (n : ℕ) (xs : List A) → AllByRecursion P xs → AllByRecursion P (take n xs)
all_taken P zero xs h = tt
all_taken P (suc n) [] h = tt
all_taken P (suc n) (x ∷ xs) h = (h.0, all_taken P n xs h.1)

module _ (P : Entry → Type 0) where
  inserted : (e : Entry) (es : List Entry) → P e → AllByRecursion P es → AllByRecursion P (insert_entry e es)
  inserted e [] p h = (p, tt)
  inserted e (x ∷ xs) p h = elim (nat_lt e.offset x.offset) as (λ t. AllByRecursion P (if t then e ∷ x ∷ xs else x ∷ insert_entry e xs)) [
    | true ↦ (p, h)
    | false ↦ (h.0, inserted e xs p h.1)
  ]

  sorted : (es : List Entry) → AllByRecursion P es → AllByRecursion P (by_offset es)
  sorted [] h = tt
  sorted (e ∷ es) h = inserted e (by_offset es) h.0 (sorted es h.1)

  repeated : (window : List Entry) (l : Lane) → AllByRecursion P window → AllByRecursion P (repeats_on window l)
  unfolding repeats_on
  repeated window l h = all_taken P 16 _ (sorted _ (all_kept P (λ e. lane_eq e.transmission.lane l && e.due) window h))

  all_repeated : (window : List Entry) (ps : List Port) → AllByRecursion P window → AllByRecursion P (flat_map (λ (p : Port). repeats_on window p.lane) ps)
  all_repeated window [] h = tt
  all_repeated window (p ∷ ps) h = all_both P (repeats_on window p.lane) _ (repeated window p.lane h) (all_repeated window ps h)

with_repeats_is : (es : List Entry) (frames : Lane → List Allocation) (outgoing : Lane → List Outgoing) (l : Lane) →
    with_repeats es frames outgoing l ≡ outgoing l ++ map (outgoing_repeat (frames l)) (filter (λ (x : Entry). lane_eq x.transmission.lane l) es)
with_repeats_is [] frames outgoing l = sym (append-nil (outgoing l))
with_repeats_is (e ∷ es) frames outgoing l = refl

module _ (net : Network) (w : World) (v : ℕ) (c : Conserved net w) where
  abbrev effect_over : View → Effect
  effect_over x = plan net.site w.link_up x

  abbrev aged : Volatile
  aged = record (w.volatile v) { window = map age (w.volatile v).window }

  aged_is : IsVolatile net w v aged
  aged_is = age_keeps net w v (w.volatile v) (c.volatile v)

  order_seen : (j : ℕ) (t : Transmission) → slice_get (effect_over (seen net w v)).orders j ≡ Some t → IsOrder net w v c t
  order_seen j t h = plan_order_at net w v c j t (ap (λ (x : View). slice_get (effect_over x).orders j) (seen_is net w v) ∙ h)

  seen_volatile : IsVolatile net w v (effect_over (seen net w v)).volatile
  unfolding plan
  seen_volatile =
      let out : List Entry = (effect_over (seen net w v)).repeats in
      let h = again_keeps net w v aged out aged_is in
      record {
        entries = h.entries;
        places = h.places;
        pending = h.pending;
        once = h.once;
        awaiting = λ n t at. elim (both_cases (w.volatile v).awaiting (effect_over (seen net w v)).orders n t at) [
          | inl old ↦ h.awaiting n t old
          | inr (k, new) ↦ let o = order_seen k t new in (o.at, o.shaped, o.awaited)
        ];
      }

  seen_repeats : AllByRecursion (IsEntry net w v) (effect_over (seen net w v)).repeats
  unfolding plan
  seen_repeats = all_repeated (IsEntry net w v) aged.window _ (all_from (IsEntry net w v) aged.window aged_is.entries)

  -- The memory of the manager stays consistent.
  pub plan_volatile : IsVolatile net w v (plan net.site w.link_up (view_of net w v)).volatile
  plan_volatile = subst (λ (x : View). IsVolatile net w v (effect_over x).volatile) (sym (seen_is net w v)) seen_volatile

  abbrev effect : Effect
  effect = effect_over (view_of net w v)

  plan_repeats : AllByRecursion (IsEntry net w v) effect.repeats
  plan_repeats = subst (λ (x : View). AllByRecursion (IsEntry net w v) (effect_over x).repeats) (sym (seen_is net w v)) seen_repeats

  -- The frame is a repeat on this lane, or could be put before the plan.
  record IsRepeat (l : Lane) (o : Outgoing) : Type 0 where
    entry : Entry
    at : entry.transmission.lane ≡ l
    is : outgoing_repeat (w.frames l) entry ≡ o
    known : IsEntry net w v entry

  outgoing_cases : (l : Lane) (n : ℕ) (o : Outgoing) → slice_get (with_repeats effect.repeats w.frames w.outgoing l) n ≡ Some o → (slice_get (w.outgoing l) n ≡ Some o) ⊎ IsRepeat l o
  outgoing_cases l n o h =
      let mine : List Entry = filter (λ (x : Entry). lane_eq x.transmission.lane l) effect.repeats in
      elim (both_cases (w.outgoing l) (map (outgoing_repeat (w.frames l)) mine) n o (ap (λ (os : List Outgoing). slice_get os n) (sym (with_repeats_is effect.repeats w.frames w.outgoing l)) ∙ h)) [
        | inl old ↦ inl old
        | inr (k, new) ↦
            let r = mapped_at (outgoing_repeat (w.frames l)) mine o k new in
            let e = kept_at (λ (x : Entry). lane_eq x.transmission.lane l) effect.repeats r.0 k r.1 in
            inr (record { entry = r.0; at = lane_eq_from r.0.transmission.lane l e.2; is = r.2; known = all_at (IsEntry net w v) effect.repeats e.0 r.0 plan_repeats e.1 })
      ]

  repeat_framed : (l : Lane) (e : Entry) → e.transmission.lane ≡ l → IsEntry net w v e →
      (a : Allocation) × (slice_get (w.frames l) (frame_at (w.frames l) e.offset) ≡ Some a) × (a.item ≡ e.transmission.item)
  repeat_framed l e at h =
      let a : Allocation = record { offset = e.offset; item = e.transmission.item } in
      let there : slice_get (w.frames l) h.number ≡ Some a = ap (λ (x : Lane). slice_get (w.frames x) h.number) (sym at) ∙ h.frame in
      let found : frame_at (w.frames l) e.offset ≡ h.number = frame_at_finds w.durable.facts (w.durable.own l) (w.frames l) _ (c.now.owned l) h.number a there in
      (a, ap (slice_get (w.frames l)) found ∙ there, refl)

  -- Each frame that may be put after the plan is a frame of its lane.
  pub plan_wired : (l : Lane) → IsWired (w.frames l) (w.wire l) (with_repeats (plan net.site w.link_up (view_of net w v)).repeats w.frames w.outgoing l)
  plan_wired l = record {
    wired = (c.wired l).wired;
    put = λ n o h. elim (outgoing_cases l n o h) [
      | inl old ↦ (c.wired l).put n o old
      | inr r ↦ subst (λ (x : Outgoing). (a : Allocation) × (slice_get (w.frames l) x.frame ≡ Some a) × (a.item ≡ x.transmission.item)) r.is (repeat_framed l r.entry r.at r.known)
    ];
  }

  -- Each frame that may be put, and each order, is listed under its own lane.
  pub plan_posted : (l : Lane) → IsPosted l (with_orders (plan net.site w.link_up (view_of net w v)).orders w.unclaimed l)
      (with_repeats (plan net.site w.link_up (view_of net w v)).repeats w.frames w.outgoing l)
  plan_posted l = record {
    ordered = λ n t h. elim (both_cases (w.unclaimed l) (on l effect.orders) n t (ap (λ (ts : List Transmission). slice_get ts n) (sym (with_orders_is effect.orders w.unclaimed l)) ∙ h)) [
      | inl old ↦ (c.posted l).ordered n t old
      | inr (k, new) ↦
          let r = kept_at (λ (x : Transmission). lane_eq x.lane l) effect.orders t k new in
          (lane_eq_from t.lane l r.2, (plan_order_at net w v c r.0 t r.1).shaped)
    ];
    put = λ n o h. elim (outgoing_cases l n o h) [
      | inl old ↦ (c.posted l).put n o old
      | inr r ↦ subst (λ (x : Outgoing). (x.transmission.lane ≡ l) × IsShaped x.transmission) r.is (r.at, r.known.shaped)
    ];
  }
