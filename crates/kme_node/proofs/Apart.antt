-- The ends of a manager have different lanes, since each lane has one sender.
use Rattle.std.proofs.Common.{◌≡◌, ◌≢◌, ℕ, zero, suc, ◌<◌, Bool, true, false, List, [], ◌∷◌, ◌++◌, map, filter, append-nil, sym, ap, subst, arith}
use Rattle.std.specs.Prelude.{if◌then◌else◌}
use Rattle.std.specs.List.{AllByRecursion}
use Rattle.std.proofs.lemmas.List.Elements.{filter-append}
use Rattle.qkd_base.specs.declared.lane.Lane.{Lane}
use Rattle.net_model.specs.Site.{Site, count_up, is_incident, outgoing_lane, outgoing_lanes}
use Rattle.net_model.specs.View.{Port}
use Rattle.kme_base.specs.Places.{AreEnds}
use Rattle.kme_node.specs.Places.{AreApart, AreWithin}

-- increasing numbers are all different

abbrev AreBelow : ℕ → List ℕ → Type 0
AreBelow n xs = AllByRecursion (λ (x : ℕ). x < n) xs

abbrev Differ : List ℕ → Type 0
Differ [] = Unit {0}
Differ (x ∷ xs) = AllByRecursion (λ (y : ℕ). y ≢ x) xs × Differ xs

still_below : (n : ℕ) (xs : List ℕ) → AreBelow n xs → AreBelow (suc n) xs
still_below n [] h = tt
still_below n (x ∷ xs) h = (omega (arith, h.0), still_below n xs h.1)

below_push : (n : ℕ) (xs : List ℕ) → AreBelow (suc n) xs → AreBelow (suc n) (xs ++ n ∷ [])
below_push n [] h = (omega arith, tt)
below_push n (x ∷ xs) h = (h.0, below_push n xs h.1)

others_push : (n x : ℕ) (xs : List ℕ) → n ≢ x → AllByRecursion (λ (y : ℕ). y ≢ x) xs → AllByRecursion (λ (y : ℕ). y ≢ x) (xs ++ n ∷ [])
others_push n x [] apart h = (apart, tt)
others_push n x (y ∷ ys) apart h = (h.0, others_push n x ys apart h.1)

differ_push : (n : ℕ) (xs : List ℕ) → AreBelow n xs → Differ xs → Differ (xs ++ n ∷ [])
differ_push n [] below h = (tt, tt)
differ_push n (x ∷ xs) below h = (others_push n x xs (λ e. let low = below.0 in absurd (omega (arith, e, low))) h.0, differ_push n xs below.1 h.1)

module _ (p : ℕ → Bool) where
  one_more : (n : ℕ) → filter p (count_up (suc n)) ≡ filter p (count_up n) ++ (if p n then n ∷ [] else [])
  one_more n = filter-append p (count_up n) (n ∷ [])

  all_below : (n : ℕ) → AreBelow n (filter p (count_up n))
  all_below zero = tt
  all_below (suc n) =
      let before = still_below n (filter p (count_up n)) (all_below n) in
      subst (AreBelow (suc n)) (sym (one_more n)) (elim (p n) as (λ t. AreBelow (suc n) (filter p (count_up n) ++ (if t then n ∷ [] else []))) [
        | true ↦ below_push n (filter p (count_up n)) before
        | false ↦ subst (AreBelow (suc n)) (sym (append-nil (filter p (count_up n)))) before
      ])

  all_differ : (n : ℕ) → Differ (filter p (count_up n))
  all_differ zero = tt
  all_differ (suc n) =
      subst Differ (sym (one_more n)) (elim (p n) as (λ t. Differ (filter p (count_up n) ++ (if t then n ∷ [] else []))) [
        | true ↦ differ_push n (filter p (count_up n)) (all_below n) (all_differ n)
        | false ↦ subst Differ (sym (append-nil (filter p (count_up n)))) (all_differ n)
      ])

-- the ends have different lanes

abbrev LanesDiffer : List Lane → Type 0
LanesDiffer [] = Unit {0}
LanesDiffer (l ∷ ls) = AllByRecursion (λ (k : Lane). k ≢ l) ls × LanesDiffer ls

module _ (s : Site) (v : ℕ) where
  other_lanes : (x : ℕ) (xs : List ℕ) → AllByRecursion (λ (y : ℕ). y ≢ x) xs → AllByRecursion (λ (k : Lane). k ≢ outgoing_lane s v x) (map (outgoing_lane s v) xs)
  other_lanes x [] h = tt
  other_lanes x (y ∷ ys) h = (λ e. h.0 (ap (λ (l : Lane). l.link) e), other_lanes x ys h.1)

  lanes_differ : (xs : List ℕ) → Differ xs → LanesDiffer (map (outgoing_lane s v) xs)
  lanes_differ [] h = tt
  lanes_differ (x ∷ xs) h = (other_lanes x xs h.0, lanes_differ xs h.1)

other_ends : (l : Lane) (ports : List Port) → AllByRecursion (λ (k : Lane). k ≢ l) (map (λ (p : Port). p.lane) ports) → AllByRecursion (λ (q : Port). q.lane ≢ l) ports
other_ends l [] h = tt
other_ends l (p ∷ ps) h = (h.0, other_ends l ps h.1)

apart_by_lanes : (ports : List Port) → LanesDiffer (map (λ (p : Port). p.lane) ports) → AreApart ports
apart_by_lanes [] h = tt
apart_by_lanes (p ∷ ps) h = (other_ends p.lane ps h.0, apart_by_lanes ps h.1)

pub ends_apart : (s : Site) (v : ℕ) (ports : List Port) → map (λ (p : Port). p.lane) ports ≡ outgoing_lanes s v → AreApart ports
unfolding outgoing_lanes
ends_apart s v ports lanes =
    apart_by_lanes ports (subst LanesDiffer (sym lanes) (lanes_differ s v (filter (is_incident s v) (count_up s.links)) (all_differ (is_incident s v) s.links)))

pub ends_within : (ports : List Port) → AreEnds ports → AreWithin ports
ends_within [] h = tt
ends_within (p ∷ ps) h = (h.0.planned, ends_within ps h.1)
