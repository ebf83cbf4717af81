-- Where an order gets its bytes, what is awaited stays on its way.
use Rattle.std.proofs.Common.{◌≡◌, ℕ, ◌+◌, ◌≤◌, ◌<◌, Bool, true, false, ◌&&◌, ◌||◌, List, [], ◌∷◌, ◌++◌, length, refl, sym, ◌∙◌, ap, arith, ◌⊎◌, inl, inr, Option, Some}
use Rattle.std.specs.Prelude.{◌==◌, count_by, slice_get, if◌then◌else◌}
use Rattle.std.specs.List.{list_any}
use Rattle.std.proofs.lemmas.List.Folds.{list_any-append}
use Rattle.qkd_base.specs.Lane.{lane_eq}
use Rattle.qkd_base.specs.declared.lane.Lane.{Lane}
use Rattle.net_model.specs.declared.placing.Placing.{Placing}
use Rattle.net_model.specs.Item.{item_of, need, payload, len_or_zero}
use Rattle.net_model.specs.Site.{sender}
use Rattle.net_model.specs.World.{Network, World, Allocation, Transmission, Entry, Outgoing}
use Rattle.net_model.specs.Window.{transmission_eq}
use Rattle.net_model.specs.Invariant.{Conserved}
use Rattle.net_model.specs.Frames.{without, offset_or_zero, allocate}
use Rattle.law_base.proofs.Base.{by_lane, or_cases, or_left, or_right, lane_eq_from, eq_from}
use Rattle.law_base.proofs.Lists.{get_last, get_prefix, transmission_from}
use Rattle.law_base.proofs.Owners.{within_owned}
use Rattle.law_locality.proofs.Counting.{one_if, count_more}
use Rattle.law_locality.proofs.Lists.{all_weaker}
use Rattle.law_quiet.specs.Awaited.{brings, tells_of, IsOnItsWay, lies_at, told_at, waits_at, IsAwaited}
use Rattle.law_quiet.proofs.Awaiting.{any_longer}
use Rattle.law_quiet.proofs.Counts.{count_joined, count_zero, count_agree}

-- An order leaves the list of those that have no bytes.
any_without : (x t : Transmission) (ts : List Transmission) → list_any (transmission_eq x) ts ≡ true →
    (list_any (transmission_eq x) (without t ts) ≡ true) ⊎ (transmission_eq x t ≡ true)
any_without x t [] h = cc
any_without x t (u ∷ us) h =
    elim (transmission_eq t u) as (λ b. transmission_eq t u ≡ b → (list_any (transmission_eq x) (if b then us else u ∷ without t us) ≡ true) ⊎ (transmission_eq x t ≡ true)) [
      | true ↦ λ e. elim (or_cases (transmission_eq x u) (list_any (transmission_eq x) us) h) [
        | inl here ↦ inr (ap (transmission_eq x) (transmission_from t u e) ∙ here)
        | inr later ↦ inl later
      ]
      | false ↦ λ e. elim (or_cases (transmission_eq x u) (list_any (transmission_eq x) us) h) [
        | inl here ↦ inl (or_left (transmission_eq x u) _ here)
        | inr later ↦ elim (any_without x t us later) [ inl left ↦ inl (or_right (transmission_eq x u) _ left) | inr is ↦ inr is ]
      ]
    ] refl

module _ (net : Network) (w : World) (c : Conserved net w) (h : IsAwaited net w) where
  -- An order gets its bytes.

  module _ (t : Transmission) where
    abbrev l : Lane
    l = t.lane

    abbrev claimed : World
    claimed = (allocate w t).0

    abbrev room : Allocation
    room = record { offset = length (w.durable.own l); item = t.item }

    abbrev waiting : Outgoing
    waiting = record { frame = length (w.frames l); transmission = t; fresh = true }

    -- Each older frame of the lane is before it.
    older : (j : ℕ) (a : Allocation) → slice_get (w.frames l) j ≡ Some a → (a.offset == length (w.durable.own l)) ≡ false
    older j a at =
        let within = within_owned w.durable.facts (w.durable.own l) (w.frames l) _ (c.now.owned l) j a at in
        let some : need w.durable.facts a.item ≡ len_or_zero (payload w.durable.facts a.item) + 8 = refl in
        differ a.offset (length (w.durable.own l)) (omega (arith, within, some))
      where
        differ : (x y : ℕ) → x < y → (x == y) ≡ false
        differ x y less = elim (x == y) as (λ b. (x == y) ≡ b → b ≡ false) [ true ↦ λ e. let is = eq_from x y e in absurd (omega (arith, is, less)) | false ↦ λ e. refl ] refl

    claim_coming : (u : ℕ) (x : Transmission) → IsOnItsWay net w u x → IsOnItsWay net claimed u x
    unfolding allocate
    claim_coming u x way = (
      way.0,
      by_lane (λ k b. (list_any (transmission_eq x) (w.unclaimed k) || (list_any (brings x) (w.outgoing k) || list_any (tells_of x) (w.placings u))) ≡ true →
          (list_any (transmission_eq x) (if b then without t (w.unclaimed l) else w.unclaimed k) ||
          (list_any (brings x) (if b then w.outgoing l ++ waiting ∷ [] else w.outgoing k) || list_any (tells_of x) (w.placings u))) ≡ true) l
          (λ on. elim (or_cases (list_any (transmission_eq x) (w.unclaimed l)) _ on) [
            | inl ordered ↦ elim (any_without x t (w.unclaimed l) ordered) [
              | inl left ↦ or_left (list_any (transmission_eq x) (without t (w.unclaimed l))) _ left
              | inr is ↦ or_right (list_any (transmission_eq x) (without t (w.unclaimed l))) _
                  (or_left (list_any (brings x) (w.outgoing l ++ waiting ∷ [])) _
                  (list_any-append (brings x) (w.outgoing l) (waiting ∷ []) ∙ or_right (list_any (brings x) (w.outgoing l)) _ (or_left (brings x waiting) false is)))
            ]
            | inr later ↦ or_right (list_any (transmission_eq x) (without t (w.unclaimed l))) _ (elim (or_cases (list_any (brings x) (w.outgoing l)) _ later) [
              | inl waits ↦ or_left (list_any (brings x) (w.outgoing l ++ waiting ∷ [])) _ (any_longer (brings x) (w.outgoing l) (waiting ∷ []) waits)
              | inr told ↦ or_right (list_any (brings x) (w.outgoing l ++ waiting ∷ [])) _ told
            ])
          ])
          (λ k on. on) x.lane way.1,
    )

    abbrev longer : List Allocation
    longer = w.frames l ++ room ∷ []

    same_waits : (x i : ℕ) (o : Outgoing) → slice_get (w.outgoing l) i ≡ Some o → waits_at longer x o ≡ waits_at (w.frames l) x o
    same_waits x i o at =
        let there = (c.wired l).put i o at in
        ap (λ (a : Option Allocation). o.fresh && (offset_or_zero a == x)) (get_prefix (w.frames l) (room ∷ []) o.frame there.0 there.1 ∙ sym there.1)

    entry_before : (x : ℕ) → length (w.durable.own l) ≡ x → (i : ℕ) (e : Entry) → slice_get (w.volatile (sender net.site l)).window i ≡ Some e → lies_at l x e ≡ false
    entry_before x is i e at =
        let entry = (c.volatile (sender net.site l)).entries i e at in
        by_cases (lane_eq e.transmission.lane l) refl entry.number entry.frame
      where
        by_cases : (b : Bool) → lane_eq e.transmission.lane l ≡ b → (j : ℕ) → slice_get (w.frames e.transmission.lane) j ≡ Some (record { offset = e.offset; item = e.transmission.item }) →
            (lane_eq e.transmission.lane l && (e.offset == x)) ≡ false
        by_cases true on j there =
            rw on (ap (λ (y : ℕ). e.offset == y) (sym is) ∙
            older j (record { offset = e.offset; item = e.transmission.item }) (ap (λ (k : Lane). slice_get (w.frames k) j) (sym (lane_eq_from e.transmission.lane l on)) ∙ there))
        by_cases false on j there = rw on refl

    placing_before : (x : ℕ) → length (w.durable.own l) ≡ x → (i : ℕ) (p : Placing) → slice_get (w.placings (sender net.site l)) i ≡ Some p → told_at l x p ≡ false
    placing_before x is i p at =
        let placed = c.placed (sender net.site l) i p at in
        by_fresh p.fresh (by_cases (lane_eq p.lane l) refl placed.number placed.frame)
      where
        by_fresh : (b : Bool) {d : Bool} → d ≡ false → (b && d) ≡ false
        by_fresh true e = e
        by_fresh false e = refl

        by_cases : (b : Bool) → lane_eq p.lane l ≡ b → (j : ℕ) → slice_get (w.frames p.lane) j ≡ Some (record { offset = p.offset; item = item_of p.ack_of p.name }) →
            (lane_eq p.lane l && (p.offset == x)) ≡ false
        by_cases true on j there =
            rw on (ap (λ (y : ℕ). p.offset == y) (sym is) ∙
            older j (record { offset = p.offset; item = item_of p.ack_of p.name }) (ap (λ (k : Lane). slice_get (w.frames k) j) (sym (lane_eq_from p.lane l on)) ∙ there))
        by_cases false on j there = rw on refl

    waits_before : (x : ℕ) → length (w.durable.own l) ≡ x → (i : ℕ) (o : Outgoing) → slice_get (w.outgoing l) i ≡ Some o → waits_at (w.frames l) x o ≡ false
    waits_before x is i o at =
        let there = (c.wired l).put i o at in
        by_fresh o.fresh (ap (λ (a : Option Allocation). offset_or_zero a == x) there.1 ∙ ap (λ (y : ℕ). there.0.offset == y) (sym is) ∙ older o.frame there.0 there.1)
      where
        by_fresh : (b : Bool) {d : Bool} → d ≡ false → (b && d) ≡ false
        by_fresh true e = e
        by_fresh false e = refl

    new_place : (x : ℕ) → waits_at longer x waiting ≡ (length (w.durable.own l) == x)
    new_place x = ap (λ (a : Option Allocation). offset_or_zero a == x) (get_last (w.frames l) room)

    claim_here : (x : ℕ) → count_by (lies_at l x) (w.volatile (sender net.site l)).window + count_by (told_at l x) (w.placings (sender net.site l)) +
        count_by (waits_at longer x) (w.outgoing l ++ waiting ∷ []) ≤ 1
    claim_here x =
        let joined = count_joined (waits_at longer x) (w.outgoing l) (waiting ∷ []) in
        let last = count_more (waits_at longer x) waiting [] in
        let new : one_if (waits_at longer x waiting) ≡ one_if (length (w.durable.own l) == x) = ap one_if (new_place x) in
        let same = count_agree (waits_at longer x) (waits_at (w.frames l) x) (w.outgoing l) (same_waits x) in
        let old = h.once l x in
        elim (length (w.durable.own l) == x) as (λ b. (length (w.durable.own l) == x) ≡ b → count_by (lies_at l x) (w.volatile (sender net.site l)).window +
        count_by (told_at l x) (w.placings (sender net.site l)) + count_by (waits_at longer x) (w.outgoing l ++ waiting ∷ []) ≤ 1) [
          | true ↦ λ e.
              let is = eq_from (length (w.durable.own l)) x e in
              let one : one_if (length (w.durable.own l) == x) ≡ 1 = ap one_if e in
              let a = count_zero (lies_at l x) (w.volatile (sender net.site l)).window (entry_before x is) in
              let b = count_zero (told_at l x) (w.placings (sender net.site l)) (placing_before x is) in
              let d = count_zero (waits_at (w.frames l) x) (w.outgoing l) (waits_before x is) in
              omega (arith, joined, last, new, same, one, a, b, d)
          | false ↦ λ e. let none : one_if (length (w.durable.own l) == x) ≡ 0 = ap one_if e in omega (arith, joined, last, new, same, none, old)
        ] refl

    pub claims : IsAwaited net claimed
    unfolding allocate
    claims = record {
      coming = λ u. all_weaker (IsOnItsWay net w u) (IsOnItsWay net claimed u) (claim_coming u) (w.volatile u).awaiting (h.coming u);
      once = λ k x. by_lane (λ k b. count_by (lies_at k x) (w.volatile (sender net.site k)).window + count_by (told_at k x) (w.placings (sender net.site k)) +
          count_by (waits_at (if b then longer else w.frames k) x) (if b then w.outgoing l ++ waiting ∷ [] else w.outgoing k) ≤ 1) l (claim_here x) (λ k. h.once k x) k;
    }
