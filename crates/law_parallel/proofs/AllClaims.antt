-- The claims of all lanes, lane by lane.
use Rattle.std.proofs.Common.{◌≡◌, ℕ, ◌+◌, Bool, true, false, List, [], ◌∷◌, ◌++◌, map, refl, sym, ◌∙◌, ap, subst, arith}
use Rattle.std.specs.Prelude.{◌==◌, count_by, filter}
use Rattle.std.specs.List.{list_all, flat_map, AllByRecursion}
use Rattle.std.proofs.lemmas.List.{map-append}
use Rattle.qkd_base.specs.Lane.{lane_eq}
use Rattle.qkd_base.specs.declared.lane.Lane.{Lane}
use Rattle.net_model.specs.declared.fact.Fact.{Fact}
use Rattle.net_model.specs.declared.order.Order.{Order}
use Rattle.net_model.specs.Item.{need}
use Rattle.net_model.specs.Site.{Site}
use Rattle.net_model.specs.World.{Transmission, Outgoing}
use Rattle.net_model.specs.Window.{transmission_eq}
use Rattle.net_model.specs.Events.{is_lane}
use Rattle.net_model.specs.Tick.{Emission, New, item_in, ordered}
use Rattle.net_model.specs.Action.{Action}
use Rattle.net_model.specs.BlockOrder.{is_claim, is_by_lane, claim_lanes, are_by_lane, claimed_on}
use Rattle.run_model.specs.Lines.{all_lanes}
use Rattle.law_base.proofs.Base.{and_both}
use Rattle.law_locality.proofs.Counting.{count_more}
use Rattle.law_locality.specs.Sending.{orders_in}
use Rattle.law_locality.proofs.Lists.{on, map_kept, all_weaker}
use Rattle.law_parallel.specs.Putting.{lane_of}
use Rattle.law_parallel.proofs.Lists.{orders_on, all_by_lane}
use Rattle.law_parallel.proofs.Claims.{claim, claims_on_lane, claims_lanes}
use Rattle.law_parallel.proofs.Claimed.{fresh}
use Rattle.law_parallel.proofs.Counting.{count-map}
use Rattle.law_parallel.specs.Logs.{Deed, claims_in, done_for_plans, HaveTheSame, wanted_on}
use Rattle.law_parallel.specs.Puts.{LaneFrame, claimed_from}
use Rattle.law_parallel.specs.LaneWorks.{claims_of}
use Rattle.law_parallel.proofs.Lanes.{AreOn, on_lane}
use Rattle.law_parallel.proofs.InOrder.{lanes_in_order}
use Rattle.law_parallel.proofs.Counted.{lane_claimed, if_new, news_claimed, news_wanted}

abbrev pub orders_of : List (ℕ × Order) → List Order
orders_of xs = map (λ (x : ℕ × Order). x.1) xs

-- The frames of these claims are as many as the frames that wait for them.
pub fresh_counted : (j : ℕ) (facts : List Fact) (number offset : ℕ) (xs : List (ℕ × Order)) →
    count_by (λ (f : LaneFrame). f.number == j) (claimed_from facts number offset xs) ≡ count_by (λ (o : Outgoing). o.frame == j) (fresh number (orders_of xs))
fresh_counted j facts number offset [] = refl
fresh_counted j facts number offset (x ∷ xs) =
    let next : ℕ = offset + need facts (item_in (x.1).payload) in
    let rest = fresh_counted j facts (number + 1) next xs in
    let one = count_more (λ (f : LaneFrame). f.number == j) (record { place = x.0; emission = New (x.1); number = number; offset = offset }) (claimed_from facts (number + 1) next xs) in
    let two = count_more (λ (o : Outgoing). o.frame == j) (record { frame = number; transmission = ordered (x.1); fresh = true }) (fresh (number + 1) (orders_of xs)) in
    omega (arith, rest, one, two)

module _ (s : Site) (logs : Lane → List Deed) where
  abbrev pub all_claims : List (ℕ × Order)
  all_claims = flat_map (λ l. claims_in (logs l)) (all_lanes s)

  abbrev pub all_orders : List Order
  all_orders = orders_of all_claims

  claims_by_lanes : (ls : List Lane) → flat_map (λ l. claims_of (logs l)) ls ≡ map claim (orders_of (flat_map (λ l. claims_in (logs l)) ls))
  claims_by_lanes [] = refl
  claims_by_lanes (l ∷ ls) =
      ap (λ (xs : List Action). claims_of (logs l) ++ xs) (claims_by_lanes ls) ∙ ap (λ (xs : List Action). xs ++ map claim (orders_of (flat_map (λ k. claims_in (logs k)) ls))) (each (claims_in (logs l)))
      ∙ sym (map-append claim (orders_of (claims_in (logs l))) (orders_of (flat_map (λ k. claims_in (logs k)) ls)))
      ∙ ap (map claim) (sym (map-append (λ (x : ℕ × Order). x.1) (claims_in (logs l)) (flat_map (λ k. claims_in (logs k)) ls)))
    where
      each : (xs : List (ℕ × Order)) → map (λ (x : ℕ × Order). claim x.1) xs ≡ map claim (orders_of xs)
      each [] = refl
      each (x ∷ xs) = ap (λ (ys : List Action). claim x.1 ∷ ys) (each xs)

  pub claims_are : flat_map (λ l. claims_of (logs l)) (all_lanes s) ≡ map claim all_orders
  claims_are = claims_by_lanes (all_lanes s)

  module _ (mine : (l : Lane) → AreOn lane_claimed l (claims_in (logs l))) (none : (l : Lane) → is_lane s l ≡ false → logs l ≡ []) where
    claims_here : (l : Lane) → on lane_claimed l all_claims ≡ claims_in (logs l)
    claims_here l = on_lane lane_claimed (λ k. claims_in (logs k)) mine s (λ k e. ap claims_in (none k e)) l

    pub orders_here : (l : Lane) → filter (λ (o : Order). lane_eq o.lane l) all_orders ≡ orders_of (claims_in (logs l))
    orders_here l = map_kept (λ (o : Order). lane_eq o.lane l) (λ (x : ℕ × Order). x.1) all_claims ∙ ap orders_of (claims_here l)

    declared_here : (l : Lane) → AllByRecursion (λ (x : ℕ × Order). is_lane s (lane_claimed x) ≡ true) (claims_in (logs l))
    declared_here l = elim (is_lane s l) as (λ t. is_lane s l ≡ t → AllByRecursion (λ (x : ℕ × Order). is_lane s (lane_claimed x) ≡ true) (claims_in (logs l))) [
      | true ↦ λ e. all_weaker (λ (x : ℕ × Order). lane_claimed x ≡ l) (λ (x : ℕ × Order). is_lane s (lane_claimed x) ≡ true) (λ x is. ap (is_lane s) is ∙ e) (claims_in (logs l)) (mine l)
      | false ↦ λ e. subst (λ (log : List Deed). AllByRecursion (λ (x : ℕ × Order). is_lane s (lane_claimed x) ≡ true) (claims_in log)) (sym (none l e)) tt
    ] refl

    all_declared : AllByRecursion (λ (x : ℕ × Order). is_lane s (lane_claimed x) ≡ true) all_claims
    all_declared =
        all_by_lane lane_claimed (λ (x : ℕ × Order). is_lane s (lane_claimed x) ≡ true) all_claims
        (λ l. subst (AllByRecursion (λ (x : ℕ × Order). is_lane s (lane_claimed x) ≡ true)) (sym (claims_here l)) (declared_here l))

    pub each_claim : list_all (is_claim s) (map claim all_orders) ≡ true
    each_claim = each all_claims all_declared
      where
        each : (xs : List (ℕ × Order)) → AllByRecursion (λ (x : ℕ × Order). is_lane s (lane_claimed x) ≡ true) xs → list_all (is_claim s) (map claim (orders_of xs)) ≡ true
        each [] h = refl
        each (x ∷ xs) h = and_both (is_lane s (lane_claimed x)) (list_all (is_claim s) (map claim (orders_of xs))) h.0 (each xs h.1)

    pub claims_in_order : are_by_lane (claim_lanes (map claim all_orders)) ≡ true
    claims_in_order = ap are_by_lane (claims_lanes all_orders) ∙ ap is_by_lane (both all_claims) ∙ lanes_in_order lane_claimed (λ l. claims_in (logs l)) mine s
      where
        both : (xs : List (ℕ × Order)) → map (λ (o : Order). o.lane) (orders_of xs) ≡ map lane_claimed xs
        both [] = refl
        both (x ∷ xs) = ap (λ (ls : List Lane). lane_claimed x ∷ ls) (both xs)

    -- Each order is claimed on its lane as often as the plans order it there.
    pub claims_counted : (wanted : List (ℕ × Emission)) (l : Lane) → HaveTheSame (done_for_plans (logs l)) (wanted_on l wanted) → (t : Transmission) →
        count_by (transmission_eq t) (claimed_on l (map claim all_orders)) ≡
        count_by (transmission_eq t) (map ordered (filter (λ (o : Order). lane_eq o.lane l) (orders_in (map (λ (x : ℕ × Emission). x.1) wanted))))
    claims_counted wanted l same t =
        let p : Order → Bool = λ o. transmission_eq t (ordered o) in
        ap (count_by (transmission_eq t)) (claims_on_lane l all_orders ∙ ap (map ordered) (orders_here l))
        ∙ count-map (transmission_eq t) ordered (orders_of (claims_in (logs l))) ∙ count-map p (λ (x : ℕ × Order). x.1) (claims_in (logs l))
        ∙ sym (news_claimed (λ x. p x.1) (logs l)) ∙ same (if_new (λ x. p x.1)) ∙ news_wanted p (wanted_on l wanted)
        ∙ ap (λ (es : List Emission). count_by p (orders_in es)) (sym (map_kept (λ (e : Emission). lane_eq (lane_of e) l) (λ (x : ℕ × Emission). x.1) wanted))
        ∙ ap (count_by p) (sym (orders_on l (map (λ (x : ℕ × Emission). x.1) wanted)))
        ∙ sym (count-map (transmission_eq t) ordered (filter (λ (o : Order). lane_eq o.lane l) (orders_in (map (λ (x : ℕ × Emission). x.1) wanted))))
