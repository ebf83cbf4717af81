-- The bytes of a plan's orders lie below its leases.
use Rattle.std.proofs.Common.{◌≡◌, ◌⊎◌, ℕ, suc, ◌+◌, ◌<◌, ◌≤◌, Bool, true, false, List, [], ◌∷◌, ◌++◌, map, Option, Some, None, eqb, leb, if◌then◌else◌, refl, sym, subst, arith, inl, inr}
use Rattle.std.specs.Prelude.{nat_lt, filter}
use Rattle.std.specs.List.{AllByRecursion}
use Rattle.std.proofs.lemmas.Bool.Decides.{eqb_tells, leb_tells}
use Rattle.qkd_base.specs.Lane.{lane_place}
use Rattle.net_model.specs.declared.fact.Fact.{Fact}
use Rattle.net_model.specs.declared.order.Order.{Order}
use Rattle.net_model.specs.declared.payload.Payload.{Payload}
use Rattle.net_model.specs.Item.{need, payload, len_or_zero}
use Rattle.net_model.specs.Site.{Site}
use Rattle.net_model.specs.World.{Transmission, needs}
use Rattle.net_model.specs.View.{View, Port, received_of}
use Rattle.net_model.specs.Plan.{acks_on, facts_on, wanted_on, that_fit, orders_on, spelled_order, spelled_orders, raise}
use Rattle.net_model.specs.Tick.{New}
use Rattle.lane_sender.specs.Lane.{frame_need}
use Rattle.par_lanes.specs.Wants.{bytes_for}
use Rattle.par_lanes.specs.Granting.{need_at}
use Rattle.par_lanes.specs.Leases.{replied_orders, ArePlansLeased}
use Rattle.par_lanes.proofs.Wanting.{sum_here, sum_past}
use Rattle.par_lanes.proofs.Issuing.{need_more}

-- An order takes on a lane what its payload needs, or nothing.
one_case : (i : ℕ) (o : Order) → ((eqb (lane_place o.lane) i ≡ true) × (lane_place o.lane ≡ i)) ⊎ ((eqb (lane_place o.lane) i ≡ false) × (lane_place o.lane ≡ i → ⊥)) → need_at i (o ∷ []) ≤ frame_need o.payload
one_case i o (inl (b, same)) = let here = sum_here bytes_for i (New o) [] b in omega (arith, here)
one_case i o (inr (b, apart)) = let none = sum_past bytes_for i (New o) [] b in omega (arith, none)

one_need : (i : ℕ) (t : Transmission) (used : ℕ) (o : Option Payload) → need_at i (spelled_order t used o) ≤ len_or_zero o + 8
one_need i t used None = omega arith
one_need i t used (Some p) = one_case i (record { lane = t.lane; offset = used; ack_of = t.received_offset; payload = p }) (eqb_tells (lane_place t.lane) i)

needed : (facts : List Fact) (i used : ℕ) (ts : List Transmission) → need_at i (spelled_orders facts used ts) ≤ needs facts ts
needed facts i used [] = omega arith
needed facts i used (t ∷ ts) =
    let both = need_more i (spelled_order t used (payload facts t.item)) (spelled_orders facts (used + need facts t.item) ts) in
    let one = one_need i t used (payload facts t.item) in
    let rest = needed facts i (used + need facts t.item) ts in
    omega (arith, both, one, rest)

-- An order of another lane takes nothing of this one.

other_case : (i : ℕ) (o : Order) → (lane_place o.lane ≡ i → ⊥) → ((eqb (lane_place o.lane) i ≡ true) × (lane_place o.lane ≡ i)) ⊎ ((eqb (lane_place o.lane) i ≡ false) × (lane_place o.lane ≡ i → ⊥)) → need_at i (o ∷ []) ≡ 0
other_case i o apart (inl (b, same)) = absurd (apart same)
other_case i o apart (inr (b, other)) = sum_past bytes_for i (New o) [] b

other_one : (i : ℕ) (t : Transmission) (used : ℕ) (o : Option Payload) → (lane_place t.lane ≡ i → ⊥) → need_at i (spelled_order t used o) ≡ 0
other_one i t used None apart = refl
other_one i t used (Some p) apart = other_case i (record { lane = t.lane; offset = used; ack_of = t.received_offset; payload = p }) apart (eqb_tells (lane_place t.lane) i)

others_need : (facts : List Fact) (i used : ℕ) (ts : List Transmission) → AllByRecursion (λ (t : Transmission). lane_place t.lane ≡ i → ⊥) ts → need_at i (spelled_orders facts used ts) ≡ 0
others_need facts i used [] h = refl
others_need facts i used (t ∷ ts) h =
    let both = need_more i (spelled_order t used (payload facts t.item)) (spelled_orders facts (used + need facts t.item) ts) in
    let one = other_one i t used (payload facts t.item) h.0 in
    let rest = others_need facts i (used + need facts t.item) ts h.1 in
    omega (arith, both, one, rest)

-- The orders on a lane are of that lane.

module _ {A : Type 0} (P : A → Type 0) where
  kept_all : (test : A → Bool) (xs : List A) → AllByRecursion P xs → AllByRecursion P (filter test xs)
  kept_all test [] h = tt
  kept_all test (x ∷ xs) h = elim (test x) as (λ b. AllByRecursion P (if b then x ∷ filter test xs else filter test xs)) [ true ↦ (h.0, kept_all test xs h.1) | false ↦ kept_all test xs h.1 ]

  both_all : (xs ys : List A) → AllByRecursion P xs → AllByRecursion P ys → AllByRecursion P (xs ++ ys)
  both_all [] ys h k = k
  both_all (x ∷ xs) ys h k = (h.0, both_all xs ys h.1 k)

  made_all : {B : Type 0} (f : B → A) → ((b : B) → P (f b)) → (bs : List B) → AllByRecursion P (map f bs)
  made_all f h [] = tt
  made_all f h (b ∷ bs) = (h b, made_all f h bs)

fit_all : (P : Transmission → Type 0) (facts : List Fact) (received used : ℕ) (ts : List Transmission) → AllByRecursion P ts → AllByRecursion P (that_fit facts received used ts)
fit_all P facts received used [] h = tt
fit_all P facts received used (t ∷ ts) h =
    elim (nat_lt received (used + need facts t.item)) as (λ b. AllByRecursion P (if b then [] else t ∷ that_fit facts received (used + need facts t.item) ts)) [ true ↦ tt | false ↦ (h.0, fit_all P facts received (used + need facts t.item) ts h.1) ]

orders_apart : (s : Site) (v : View) (p : Port) (i : ℕ) → (lane_place p.lane ≡ i → ⊥) → AllByRecursion (λ (t : Transmission). lane_place t.lane ≡ i → ⊥) (orders_on s v p)
unfolding orders_on wanted_on
orders_apart s v p i apart =
    fit_all (λ (t : Transmission). lane_place t.lane ≡ i → ⊥) v.facts (received_of p) p.planned _
    (kept_all (λ (t : Transmission). lane_place t.lane ≡ i → ⊥) _ (acks_on v p.lane ++ facts_on s v p.lane)
    (both_all (λ (t : Transmission). lane_place t.lane ≡ i → ⊥) (acks_on v p.lane) (facts_on s v p.lane) (made_all (λ (t : Transmission). lane_place t.lane ≡ i → ⊥) _ (λ a. apart) _) (made_all (λ (t : Transmission). lane_place t.lane ≡ i → ⊥) _ (λ n. apart) _)))

ports_apart : (s : Site) (v : View) (i : ℕ) (ps : List Port) → AllByRecursion (λ (q : Port). lane_place q.lane ≡ i → ⊥) ps → need_at i (replied_orders s v ps) ≡ 0
ports_apart s v i [] h = refl
ports_apart s v i (q ∷ ps) h =
    let both = need_more i (spelled_orders v.facts q.planned (orders_on s v q)) (replied_orders s v ps) in
    let one = others_need v.facts i q.planned (orders_on s v q) (orders_apart s v q i h.0) in
    let rest = ports_apart s v i ps h.1 in
    omega (arith, both, one, rest)

ports_need : (s : Site) (v : View) (p : Port) (before after : List Port) → AllByRecursion (λ (q : Port). lane_place q.lane ≡ lane_place p.lane → ⊥) before → AllByRecursion (λ (q : Port). lane_place q.lane ≡ lane_place p.lane → ⊥) after →
    need_at (lane_place p.lane) (replied_orders s v (before ++ p ∷ after)) ≤ needs v.facts (orders_on s v p)
ports_need s v p [] after h k =
    let both = need_more (lane_place p.lane) (spelled_orders v.facts p.planned (orders_on s v p)) (replied_orders s v after) in
    let one = needed v.facts (lane_place p.lane) p.planned (orders_on s v p) in
    let rest = ports_apart s v (lane_place p.lane) after k in
    omega (arith, both, one, rest)
ports_need s v p (q ∷ before) after h k =
    let both = need_more (lane_place p.lane) (spelled_orders v.facts q.planned (orders_on s v q)) (replied_orders s v (before ++ p ∷ after)) in
    let one = others_need v.facts (lane_place p.lane) q.planned (orders_on s v q) (orders_apart s v q (lane_place p.lane) h.0) in
    let rest = ports_need s v p before after h.1 k in
    omega (arith, both, one, rest)

-- Orders that fit lie below the received bytes.

fit_case : (facts : List Fact) (received used : ℕ) (t : Transmission) (ts : List Transmission) → used ≤ received →
    ((used + need facts t.item) ≤ received → (used + need facts t.item) + needs facts (that_fit facts received (used + need facts t.item) ts) ≤ received) →
    ((leb (suc received) (used + need facts t.item) ≡ true) × (suc received ≤ used + need facts t.item)) ⊎ ((leb (suc received) (used + need facts t.item) ≡ false) × (used + need facts t.item < suc received)) →
    used + needs facts (that_fit facts received used (t ∷ ts)) ≤ received
fit_case facts received used t ts le more (inl (b, over)) =
    subst (λ (x : Bool). used + needs facts (if x then [] else t ∷ that_fit facts received (used + need facts t.item) ts) ≤ received) (sym b) (omega (arith, le))
fit_case facts received used t ts le more (inr (b, under)) =
    subst (λ (x : Bool). used + needs facts (if x then [] else t ∷ that_fit facts received (used + need facts t.item) ts) ≤ received) (sym b) (let rest = more (omega (arith, under)) in omega (arith, rest))

fit_needs : (facts : List Fact) (received used : ℕ) (ts : List Transmission) → used ≤ received → used + needs facts (that_fit facts received used ts) ≤ received
fit_needs facts received used [] le = omega (arith, le)
fit_needs facts received used (t ∷ ts) le =
    fit_case facts received used t ts le (λ under. fit_needs facts received (used + need facts t.item) ts under) (leb_tells (suc received) (used + need facts t.item))

room_for : (s : Site) (v : View) (p : Port) → p.planned ≤ received_of p → p.planned + needs v.facts (orders_on s v p) ≤ received_of p
unfolding orders_on
room_for s v p le = fit_needs v.facts (received_of p) p.planned (wanted_on s v p.lane) le

raised_over : (end received : ℕ) → end ≤ received → (end ≤ raise end received) × (raise end received ≤ received)
raised_over end received le = (omega (arith, le), omega arith)

lease_case : (planned lease received taken all : ℕ) → taken ≤ all → planned + all ≤ received → lease ≤ received →
    ((leb (suc lease) (planned + all) ≡ true) × (suc lease ≤ planned + all)) ⊎ ((leb (suc lease) (planned + all) ≡ false) × (planned + all < suc lease)) →
    (planned + taken ≤ (if nat_lt lease (planned + all) then raise (planned + all) received else lease)) × ((if nat_lt lease (planned + all) then raise (planned + all) received else lease) ≤ received)
lease_case planned lease received taken all few room leased (inl (b, over)) =
    let high = raised_over (planned + all) received room in
    let one = high.0 in
    subst (λ (x : Bool). (planned + taken ≤ (if x then raise (planned + all) received else lease)) × ((if x then raise (planned + all) received else lease) ≤ received)) (sym b) (omega (arith, one, few), high.1)
lease_case planned lease received taken all few room leased (inr (b, under)) =
    subst (λ (x : Bool). (planned + taken ≤ (if x then raise (planned + all) received else lease)) × ((if x then raise (planned + all) received else lease) ≤ received)) (sym b) (omega (arith, under, few), leased)

pub are_leased : ArePlansLeased
are_leased s v before after p planned leased h k =
    lease_case p.planned p.lease (received_of p) (need_at (lane_place p.lane) (replied_orders s v (before ++ p ∷ after))) (needs v.facts (orders_on s v p)) (ports_need s v p before after h k)
    (room_for s v p (omega (arith, planned, leased))) leased (leb_tells (suc p.lease) (p.planned + needs v.facts (orders_on s v p)))
