-- The claims of a block that is done in sequence are those of its new orders.
use Rattle.std.proofs.Common.{◌≡◌, ℕ, true, false, List, [], ◌∷◌, ◌++◌, map, refl, ap, arith, Some}
use Rattle.std.specs.Prelude.{nat_le, filter, if◌then◌else◌}
use Rattle.std.specs.List.{list_all, AllByRecursion}
use Rattle.std.proofs.lemmas.Bool.Decides.{nat_tests}
use Rattle.qkd_base.specs.Lane.{lane_eq}
use Rattle.qkd_base.specs.declared.lane.Lane.{Lane}
use Rattle.net_model.specs.declared.order.Order.{Order}
use Rattle.net_model.specs.Site.{Site}
use Rattle.net_model.specs.World.{Transmission}
use Rattle.net_model.specs.Events.{is_lane}
use Rattle.net_model.specs.Tick.{Emission, Again, New, ordered}
use Rattle.net_model.specs.Action.{Action, Allocate}
use Rattle.net_model.specs.BlockOrder.{is_claim, lane_number, is_by_lane, with_lane, claim_lanes, claimed_on}
use Rattle.law_base.proofs.Base.{and_left, and_right, and_both}
use Rattle.law_locality.specs.Sending.{orders_in}
use Rattle.law_parallel.specs.Putting.{Putting, lane_of, emission_claims, claims_of}

abbrev pub claim : Order → Action
claim o = Allocate (ordered o)

abbrev pub emissions : List Putting → List Emission
emissions ps = map (λ (p : Putting). p.emission) ps

pub claims_are : (ps : List Putting) → claims_of ps ≡ map claim (orders_in (emissions ps))
claims_are [] = refl
claims_are (p ∷ ps) = elim p.emission as (λ e. emission_claims e ++ claims_of ps ≡ map claim (orders_in (e ∷ emissions ps))) [
  | Again r ↦ claims_are ps
  | New o ↦ ap (λ (xs : List Action). claim o ∷ xs) (claims_are ps)
]

pub claims_on_lane : (l : Lane) (os : List Order) → claimed_on l (map claim os) ≡ map ordered (filter (λ (o : Order). lane_eq o.lane l) os)
claims_on_lane l [] = refl
claims_on_lane l (o ∷ os) =
    elim (lane_eq o.lane l) as (λ t. (if t then ordered o ∷ claimed_on l (map claim os) else claimed_on l (map claim os)) ≡
    map ordered (if t then o ∷ filter (λ (x : Order). lane_eq x.lane l) os else filter (λ (x : Order). lane_eq x.lane l) os)) [
      | true ↦ ap (λ (ts : List Transmission). ordered o ∷ ts) (claims_on_lane l os)
      | false ↦ claims_on_lane l os
    ]

pub claims_lanes : (os : List Order) → claim_lanes (map claim os) ≡ Some (map (λ (o : Order). o.lane) os)
claims_lanes [] = refl
claims_lanes (o ∷ os) = ap (with_lane o.lane) (claims_lanes os)

-- Each frame to be sent is on a declared lane.

abbrev pub AreOnLanes : Site → List Emission → Type 0
AreOnLanes s es = AllByRecursion (λ (e : Emission). is_lane s (lane_of e) ≡ true) es

pub claims_each : (s : Site) (es : List Emission) → AreOnLanes s es → list_all (is_claim s) (map claim (orders_in es)) ≡ true
claims_each s [] h = refl
claims_each s (Again r ∷ es) h = claims_each s es h.1
claims_each s (New o ∷ es) h = and_both (is_lane s o.lane) (list_all (is_claim s) (map claim (orders_in es))) h.0 (claims_each s es h.1)

-- Lemmas on sorted lists of lanes and their sublists.

abbrev Least : Lane → List Lane → Type 0
Least l ks = AllByRecursion (λ (k : Lane). nat_le (lane_number l) (lane_number k) ≡ true) ks

abbrev AreInOrder : List Lane → Type 0
AreInOrder [] = Unit {0}
AreInOrder (l ∷ ls) = Least l ls × AreInOrder ls

chained : (a b c : ℕ) → nat_le a b ≡ true → nat_le b c ≡ true → nat_le a c ≡ true
chained a b c h k = grind (arith, nat_tests)

less_least : (l k : Lane) (ls : List Lane) → nat_le (lane_number l) (lane_number k) ≡ true → Least k ls → Least l ls
less_least l k [] h all = tt
less_least l k (m ∷ ls) h all = (chained (lane_number l) (lane_number k) (lane_number m) h all.0, less_least l k ls h all.1)

in_order : (ls : List Lane) → is_by_lane ls ≡ true → AreInOrder ls
in_order [] h = tt
in_order (l ∷ []) h = (tt, tt)
in_order (l ∷ k ∷ ls) h =
    let first = and_left (nat_le (lane_number l) (lane_number k)) (is_by_lane (k ∷ ls)) h in
    let rest : AreInOrder (k ∷ ls) = in_order (k ∷ ls) (and_right (nat_le (lane_number l) (lane_number k)) (is_by_lane (k ∷ ls)) h) in
    ((first, less_least l k ls first rest.0), rest)

by_lane : (ls : List Lane) → AreInOrder ls → is_by_lane ls ≡ true
by_lane [] h = refl
by_lane (l ∷ []) h = refl
by_lane (l ∷ k ∷ ls) h = and_both (nat_le (lane_number l) (lane_number k)) (is_by_lane (k ∷ ls)) h.0.0 (by_lane (k ∷ ls) h.1)

least_orders : (l : Lane) (es : List Emission) → Least l (map lane_of es) → Least l (map (λ (o : Order). o.lane) (orders_in es))
least_orders l [] h = tt
least_orders l (Again r ∷ es) h = least_orders l es h.1
least_orders l (New o ∷ es) h = (h.0, least_orders l es h.1)

orders_in_order : (es : List Emission) → AreInOrder (map lane_of es) → AreInOrder (map (λ (o : Order). o.lane) (orders_in es))
orders_in_order [] h = tt
orders_in_order (Again r ∷ es) h = orders_in_order es h.1
orders_in_order (New o ∷ es) h = (least_orders o.lane es h.0, orders_in_order es h.1)

pub claims_by_lane : (es : List Emission) → is_by_lane (map lane_of es) ≡ true → is_by_lane (map (λ (o : Order). o.lane) (orders_in es)) ≡ true
claims_by_lane es h = by_lane (map (λ (o : Order). o.lane) (orders_in es)) (orders_in_order es (in_order (map lane_of es) h))
