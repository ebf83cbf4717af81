-- The lanes that leave a node: each is listed once, together with its port in the manager's view.
use Rattle.std.proofs.Common.{◌≡◌, ℕ, zero, suc, ◌<◌, Bool, true, false, cond, ◌||◌, List, [], ◌∷◌, ◌++◌, refl, sym, ◌∙◌, ap, arith, inl, inr}
use Rattle.std.specs.Prelude.{◌==◌, map, filter, if◌then◌else◌}
use Rattle.std.specs.List.{list_any, flat_map}
use Rattle.qkd_base.specs.Lane.{lane_eq, reverse_lane, reverse_way}
use Rattle.qkd_base.specs.declared.lane.Way.{Way}
use Rattle.qkd_base.specs.declared.lane.Way.TheVariants.{Up, Down}
use Rattle.qkd_base.specs.declared.lane.Lane.{Lane}
use Rattle.net_model.specs.Site.{Site, sender, receiver, of_way, count_up, outgoing_lane, is_incident, outgoing_lanes}
use Rattle.net_model.specs.View.{Port}
use Rattle.net_model.specs.World.{Network, World}
use Rattle.net_model.specs.Needed.{port_at}
use Rattle.law_base.proofs.Base.{eq_from, eq_same, and_left, lane_eq_from, or_cases, or_left, or_right, or_first, or_second, or_both, not_false, not_both}

pub sender_back : (s : Site) (l : Lane) → sender s (reverse_lane l) ≡ receiver s l
sender_back s l = by_way l.way (s.low l.link) (s.high l.link)
  where
    by_way : (d : Way) (a b : ℕ) → of_way (reverse_way d) a b ≡ of_way d b a
    by_way Up a b = refl
    by_way Down a b = refl

abbrev pub LinksDiffer : List ℕ → Type 0
LinksDiffer [] = Unit {0}
LinksDiffer (x ∷ xs) = (list_any (λ y. y == x) xs ≡ false) × LinksDiffer xs

-- The list has only lanes that leave the node, each once.
abbrev pub AreOutgoing : Site → ℕ → List Lane → Type 0
AreOutgoing s v [] = Unit {0}
AreOutgoing s v (l ∷ ls) = (sender s l ≡ v) × (list_any (λ k. lane_eq k l) ls ≡ false) × AreOutgoing s v ls

module _ (s : Site) (v : ℕ) (p : Lane → Bool) where
  abbrev lanes_of : List ℕ → List Lane
  lanes_of xs = filter p (map (outgoing_lane s v) (filter (is_incident s v) xs))

  link_any : (xs : List ℕ) (x : ℕ) → list_any (λ k. lane_eq k (outgoing_lane s v x)) (lanes_of xs) ≡ true → list_any (λ y. y == x) xs ≡ true
  link_any [] x h = h
  link_any (y ∷ xs) x h =
      elim (is_incident s v y) as (λ t. list_any (λ k. lane_eq k (outgoing_lane s v x)) (filter p (map (outgoing_lane s v) (cond t (y ∷ filter (is_incident s v) xs) (filter (is_incident s v) xs)))) ≡ true →
      ((y == x) || list_any (λ z. z == x) xs) ≡ true) [
        | true ↦ elim (p (outgoing_lane s v y)) as (λ t. list_any (λ k. lane_eq k (outgoing_lane s v x)) (cond t (outgoing_lane s v y ∷ lanes_of xs) (lanes_of xs)) ≡ true →
            ((y == x) || list_any (λ z. z == x) xs) ≡ true) [
              | true ↦ λ e. elim (or_cases (lane_eq (outgoing_lane s v y) (outgoing_lane s v x)) _ e) [
                | inl is ↦ or_left (y == x) (list_any (λ z. z == x) xs) (and_left (y == x) _ is)
                | inr later ↦ or_right (y == x) (list_any (λ z. z == x) xs) (link_any xs x later)
              ]
              | false ↦ λ e. or_right (y == x) (list_any (λ z. z == x) xs) (link_any xs x e)
            ]
        | false ↦ λ e. or_right (y == x) (list_any (λ z. z == x) xs) (link_any xs x e)
      ] h

  leaves : (link : ℕ) → is_incident s v link ≡ true → sender s (outgoing_lane s v link) ≡ v
  leaves link h = elim (s.low link == v) as (λ t. (s.low link == v) ≡ t → of_way (if t then Up else Down) (s.low link) (s.high link) ≡ v) [
    | true ↦ λ e. eq_from (s.low link) v e
    | false ↦ λ e. elim (or_cases (s.low link == v) (s.high link == v) h) [ inl y ↦ absurd (not_both (s.low link == v) y e) | inr y ↦ eq_from (s.high link) v y ]
  ] refl

  are_outgoing : (xs : List ℕ) → LinksDiffer xs → AreOutgoing s v (lanes_of xs)
  are_outgoing [] h = tt
  are_outgoing (x ∷ xs) h =
      elim (is_incident s v x) as (λ t. is_incident s v x ≡ t → AreOutgoing s v (filter p (map (outgoing_lane s v) (cond t (x ∷ filter (is_incident s v) xs) (filter (is_incident s v) xs))))) [
        | true ↦ λ e. elim (p (outgoing_lane s v x)) as (λ t. AreOutgoing s v (cond t (outgoing_lane s v x ∷ lanes_of xs) (lanes_of xs))) [
          | true ↦ (leaves x e, not_false _ (λ y. not_both (list_any (λ z. z == x) xs) (link_any xs x y) h.0), are_outgoing xs h.1)
          | false ↦ are_outgoing xs h.1
        ]
        | false ↦ λ e. are_outgoing xs h.1
      ] refl

any-push : (xs : List ℕ) (m n : ℕ) → list_any (λ y. y == n) (xs ++ m ∷ []) ≡ (list_any (λ y. y == n) xs || (m == n))
any-push [] m n = elim (m == n) as (λ t. (t || false) ≡ t) [ true ↦ refl | false ↦ refl ]
any-push (x ∷ xs) m n = elim (x == n) as (λ t. (t || list_any (λ y. y == n) (xs ++ m ∷ [])) ≡ ((t || list_any (λ y. y == n) xs) || (m == n))) [ true ↦ refl | false ↦ any-push xs m n ]

links_push : (xs : List ℕ) (m : ℕ) → LinksDiffer xs → list_any (λ y. y == m) xs ≡ false → LinksDiffer (xs ++ m ∷ [])
links_push [] m h k = (refl, tt)
links_push (x ∷ xs) m h k = (
  any-push xs m x ∙ or_both (list_any (λ y. y == x) xs) (m == x) h.0 (not_false (m == x) (λ e. let is : m ≡ x = eq_from m x e in let a = or_first (x == m) (list_any (λ y. y == m) xs) k in
      let b : (x == m) ≡ true = ap (λ (y : ℕ). y == m) (sym is) ∙ eq_same m in not_both (x == m) b a)),
  links_push xs m h.1 (or_second (x == m) (list_any (λ y. y == m) xs) k),
)

all_below : (n x : ℕ) → list_any (λ y. y == x) (count_up n) ≡ true → x < n
all_below zero x h = cc
all_below (suc n) x h = elim (or_cases (list_any (λ y. y == x) (count_up n)) (n == x) (sym (any-push (count_up n) n x) ∙ h)) [
  | inl e ↦ let r = all_below n x e in omega arith
  | inr e ↦ let is = eq_from n x e in omega arith
]

pub links_differ : (n : ℕ) → LinksDiffer (count_up n)
links_differ zero = tt
links_differ (suc n) = links_push (count_up n) n (links_differ n) (not_false _ (λ e. let r = all_below n n e in absurd (omega arith)))

-- Of the lanes that leave a node, those that pass a test are still listed once each.
pub outgoing_each : (s : Site) (v : ℕ) (p : Lane → Bool) → AreOutgoing s v (filter p (outgoing_lanes s v))
unfolding outgoing_lanes
outgoing_each s v p = are_outgoing s v p (count_up s.links) (links_differ s.links)

pub leaves_node : (s : Site) (v : ℕ) (l : Lane) (ls : List Lane) → AreOutgoing s v ls → list_any (λ k. lane_eq k l) ls ≡ true → sender s l ≡ v
leaves_node s v l [] ok h = cc
leaves_node s v l (m ∷ ls) ok h = elim (or_cases (lane_eq m l) (list_any (λ k. lane_eq k l) ls) h) [
  | inl e ↦ ap (sender s) (sym (lane_eq_from m l e)) ∙ ok.0
  | inr e ↦ leaves_node s v l ls ok.2 e
]

-- Mapping over the ports of chosen lanes is mapping over those lanes.
pub of_ports : {A : Type 0} (net : Network) (w : World) (up : ℕ → Bool) (f : Port → List A) (ls : List Lane) →
    flat_map f (filter (λ (p : Port). up p.lane.link) (map (port_at net w) ls)) ≡ flat_map (λ l. f (port_at net w l)) (filter (λ (l : Lane). up l.link) ls)
of_ports net w up f [] = refl
of_ports {A} net w up f (l ∷ ls) = elim (up l.link) as (λ t.
    flat_map f (cond t (port_at net w l ∷ filter (λ (p : Port). up p.lane.link) (map (port_at net w) ls)) (filter (λ (p : Port). up p.lane.link) (map (port_at net w) ls))) ≡
    flat_map (λ x. f (port_at net w x)) (cond t (l ∷ filter (λ (x : Lane). up x.link) ls) (filter (λ (x : Lane). up x.link) ls))) [
      | true ↦ ap (λ (xs : List A). f (port_at net w l) ++ xs) (of_ports net w up f ls)
      | false ↦ of_ports net w up f ls
    ]
