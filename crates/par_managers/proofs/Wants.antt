-- The bytes that a plan's orders take of one lane.
use Rattle.std.proofs.Common.{◌≡◌, ◌⊎◌, ℕ, ◌+◌, ◌*◌, ◌<◌, ◌≤◌, Bool, true, false, List, [], ◌∷◌, ◌++◌, length, map, Option, Some, None, eqb, refl, sym, ap, subst, ◌∙◌, arith, inl, inr}
use Rattle.std.specs.Prelude.{filter, if◌then◌else◌}
use Rattle.std.specs.List.{AllByRecursion}
use Rattle.std.proofs.lemmas.Bool.Decides.{eqb_tells}
use Rattle.qkd_base.specs.Lane.{lane_eq, lane_place}
use Rattle.qkd_base.specs.declared.lane.Lane.{Lane}
use Rattle.net_model.specs.declared.fact.Fact.{Fact}
use Rattle.net_model.specs.declared.order.Order.{Order}
use Rattle.net_model.specs.declared.payload.Payload.{Payload}
use Rattle.net_model.specs.declared.repeat.Repeat.{Repeat}
use Rattle.net_model.specs.Item.{Item, DataItem, AckItem, need, payload, data_payload, len_or_zero}
use Rattle.net_model.specs.Table.{fact_at}
use Rattle.net_model.specs.World.{Transmission, needs}
use Rattle.net_model.specs.Tick.{Emission, Again, New, item_in, ordered}
use Rattle.law_base.proofs.Base.{lane_same}
use Rattle.law_base.proofs.Grow.{Grows}
use Rattle.law_locality.specs.Sending.{orders_in}
use Rattle.lane_sender.specs.Lane.{frame_need}
use Rattle.par_lanes.specs.Wants.{turns_for, bytes_for, turns_at, bytes_at}
use Rattle.par_lanes.specs.Granting.{need_at}
use Rattle.par_managers.proofs.Places.{lane_there}
use Rattle.par_lanes.proofs.Wanting.{sum_here, sum_past, turns_more, bytes_more}

-- The bytes that an item needs grow with the table of facts.

need_more : (T T' : List Fact) → Grows T T' → (i : Item) → need T i ≤ need T' i
need_more T T' grows (AckItem n) = omega arith
need_more T T' grows (DataItem n) =
    elim (fact_at T n) as (λ o. fact_at T n ≡ o → len_or_zero (data_payload o) + 8 ≤ len_or_zero (data_payload (fact_at T' n)) + 8) [
      | None ↦ λ e. omega arith
      | Some f ↦ λ e. subst (λ (o : Option Fact). len_or_zero (data_payload (Some f)) + 8 ≤ len_or_zero (data_payload o) + 8) (sym (grows n f e)) (omega arith)
    ] refl

pub needs_more : (T T' : List Fact) → Grows T T' → (ts : List Transmission) → needs T ts ≤ needs T' ts
needs_more T T' grows [] = omega arith
needs_more T T' grows (t ∷ ts) = let one = need_more T T' grows t.item in let rest = needs_more T T' grows ts in omega (arith, one, rest)

-- A new order has the payload that the table has for it.
abbrev pub IsSpelled : List Fact → Emission → Type 0
IsSpelled T (Again r) = Unit {0}
IsSpelled T (New o) = payload T (item_in o.payload) ≡ Some o.payload

spelled_need : (T : List Fact) (p : Payload) → payload T (item_in p) ≡ Some p → need T (item_in p) ≡ frame_need p
spelled_need T p h = ap (λ (o : Option Payload). len_or_zero o + 8) h

abbrev on : Lane → List Order → List Order
on l os = filter (λ (o : Order). lane_eq o.lane l) os

module _ (T : List Fact) (l : Lane) where
  abbrev behind : List Emission → List Transmission
  behind es = map ordered (on l (orders_in es))

  new_case : (o : Order) (es : List Emission) → payload T (item_in o.payload) ≡ Some o.payload → bytes_at (lane_place l) es ≤ needs T (behind es) →
      ((eqb (lane_place o.lane) (lane_place l) ≡ true) × (lane_place o.lane ≡ lane_place l)) ⊎ ((eqb (lane_place o.lane) (lane_place l) ≡ false) × (lane_place o.lane ≡ lane_place l → ⊥)) →
      bytes_at (lane_place l) (New o ∷ es) ≤ needs T (behind (New o ∷ es))
  new_case o es spelled rest (inl (b, same)) =
      let here = sum_here bytes_for (lane_place l) (New o) es b in
      let is : lane_eq o.lane l ≡ true = subst (λ (k : Lane). lane_eq o.lane k ≡ true) (lane_there o.lane l same) (lane_same o.lane) in
      let kept : needs T (behind (New o ∷ es)) ≡ need T (item_in o.payload) + needs T (behind es) = ap (λ (t : Bool). needs T (map ordered (if t then o ∷ on l (orders_in es) else on l (orders_in es)))) is in
      let one = spelled_need T o.payload spelled in
      omega (arith, here, kept, one, rest)
  new_case o es spelled rest (inr (b, apart)) =
      let past = sum_past bytes_for (lane_place l) (New o) es b in
      let more : needs T (behind es) ≤ needs T (behind (New o ∷ es)) =
      elim (lane_eq o.lane l) as (λ t. needs T (behind es) ≤ needs T (map ordered (if t then o ∷ on l (orders_in es) else on l (orders_in es)))) [ true ↦ omega arith | false ↦ omega arith ] in
      omega (arith, past, more, rest)

  again_case : (r : Repeat) (es : List Emission) →
      ((eqb (lane_place r.lane) (lane_place l) ≡ true) × (lane_place r.lane ≡ lane_place l)) ⊎ ((eqb (lane_place r.lane) (lane_place l) ≡ false) × (lane_place r.lane ≡ lane_place l → ⊥)) →
      bytes_at (lane_place l) (Again r ∷ es) ≡ bytes_at (lane_place l) es
  again_case r es (inl (b, same)) = let here = sum_here bytes_for (lane_place l) (Again r) es b in omega (arith, here)
  again_case r es (inr (b, apart)) = sum_past bytes_for (lane_place l) (Again r) es b

  -- The orders on a lane take the bytes that their transmissions need.
  pub bytes_needed : (es : List Emission) → AllByRecursion (IsSpelled T) es → bytes_at (lane_place l) es ≤ needs T (behind es)
  bytes_needed [] h = omega arith
  bytes_needed (Again r ∷ es) h =
      let one = again_case r es (eqb_tells (lane_place r.lane) (lane_place l)) in
      let rest = bytes_needed es h.1 in
      omega (arith, one, rest)
  bytes_needed (New o ∷ es) h = new_case o es h.0 (bytes_needed es h.1) (eqb_tells (lane_place o.lane) (lane_place l))

-- the number of turns that they take

module _ (i : ℕ) where
  abbrev Tells : ℕ → Type 0
  Tells n = ((eqb n i ≡ true) × (n ≡ i)) ⊎ ((eqb n i ≡ false) × (n ≡ i → ⊥))

  repeat_case : (r : Repeat) (es : List Emission) → Tells (lane_place r.lane) → turns_at i (Again r ∷ es) ≤ 1 + turns_at i es
  repeat_case r es (inl (b, same)) = let here = sum_here turns_for i (Again r) es b in omega (arith, here)
  repeat_case r es (inr (b, apart)) = let past = sum_past turns_for i (Again r) es b in omega (arith, past)

  pub repeats_few : (rs : List Repeat) → turns_at i (map Again rs) ≤ length rs
  repeats_few [] = omega arith
  repeats_few (r ∷ rs) = let one = repeat_case r (map Again rs) (eqb_tells (lane_place r.lane) i) in let rest = repeats_few rs in omega (arith, one, rest)

  repeat_none : (r : Repeat) (es : List Emission) → Tells (lane_place r.lane) → bytes_at i (Again r ∷ es) ≡ bytes_at i es
  repeat_none r es (inl (b, same)) = let here = sum_here bytes_for i (Again r) es b in omega (arith, here)
  repeat_none r es (inr (b, apart)) = sum_past bytes_for i (Again r) es b

  repeats_none : (rs : List Repeat) → bytes_at i (map Again rs) ≡ 0
  repeats_none [] = refl
  repeats_none (r ∷ rs) = repeat_none r (map Again rs) (eqb_tells (lane_place r.lane) i) ∙ repeats_none rs

  -- The bytes of a plan are those of its orders.
  pub orders_take : (rs : List Repeat) (os : List Order) → bytes_at i (map Again rs ++ map New os) ≡ need_at i os
  orders_take rs os = let both = bytes_more i (map Again rs) (map New os) in let none = repeats_none rs in omega (arith, both, none)

  order_case : (o : Order) (os : List Order) → turns_at i (map New os) ≤ 2 * need_at i os → Tells (lane_place o.lane) → turns_at i (map New (o ∷ os)) ≤ 2 * need_at i (o ∷ os)
  order_case o os few (inl (b, same)) =
      let turns = sum_here turns_for i (New o) (map New os) b in
      let bytes = sum_here bytes_for i (New o) (map New os) b in
      omega (arith, turns, bytes, few)
  order_case o os few (inr (b, apart)) =
      let turns = sum_past turns_for i (New o) (map New os) b in
      let bytes = sum_past bytes_for i (New o) (map New os) b in
      omega (arith, turns, bytes, few)

  orders_few : (os : List Order) → turns_at i (map New os) ≤ 2 * need_at i os
  orders_few [] = omega arith
  orders_few (o ∷ os) = order_case o os (orders_few os) (eqb_tells (lane_place o.lane) i)

  pub plan_few : (rs : List Repeat) (os : List Order) → turns_at i (map Again rs ++ map New os) ≤ length rs + 2 * need_at i os
  plan_few rs os =
      let both = turns_more i (map Again rs) (map New os) in
      let repeats = repeats_few rs in
      let orders = orders_few os in
      omega (arith, both, repeats, orders)

  -- If bytes are taken, there is an order.

  pub record HasOrder (P : Order → Type 0) : Type 0 where
    pub order : Order
    pub here : lane_place order.lane ≡ i
    pub holds : P order

  found_case : (P : Order → Type 0) (o : Order) (os : List Order) → P o → (0 < need_at i os → HasOrder P) → Tells (lane_place o.lane) → 0 < need_at i (o ∷ os) → HasOrder P
  found_case P o os holds rest (inl (b, same)) some = record { order = o; here = same; holds = holds }
  found_case P o os holds rest (inr (b, apart)) some = let past = sum_past bytes_for i (New o) (map New os) b in rest (omega (arith, past, some))

  pub order_there : (P : Order → Type 0) (os : List Order) → AllByRecursion P os → 0 < need_at i os → HasOrder P
  order_there P [] h some = absurd (omega (arith, some))
  order_there P (o ∷ os) h some = found_case P o os h.0 (order_there P os h.1) (eqb_tells (lane_place o.lane) i) some
