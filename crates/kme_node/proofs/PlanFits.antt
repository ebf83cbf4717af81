-- The orders of a plan fit in the bytes received.
use Rattle.std.proofs.Common.{◌≡◌, ◌≢◌, ℕ, ◌+◌, ◌≤◌, Bool, true, false, List, [], ◌∷◌, ◌++◌, map, refl, sym, ap, subst, ◌∙◌, arith, append-nil}
use Rattle.std.specs.Prelude.{nat_lt, not, filter, if◌then◌else◌}
use Rattle.std.specs.List.{list_any, flat_map, AllByRecursion}
use Rattle.std.proofs.lemmas.Bool.Decides.{nat_tests}
use Rattle.std.proofs.lemmas.List.Elements.{filter-append}
use Rattle.std.proofs.lemmas.List.Concat.{flat_map-cons}
use Rattle.qkd_base.specs.Lane.{lane_eq}
use Rattle.qkd_base.specs.declared.lane.Lane.{Lane}
use Rattle.net_model.specs.declared.fact.Fact.{Fact}
use Rattle.net_model.specs.Item.{need}
use Rattle.net_model.specs.Site.{Site}
use Rattle.net_model.specs.World.{Transmission, needs}
use Rattle.net_model.specs.View.{View, Port, received_of}
use Rattle.net_model.specs.Fold.{on_lane}
use Rattle.net_model.specs.Plan.{acks_on, facts_on, wanted_on, that_fit, orders_on}
use Rattle.law_base.proofs.Base.{lane_eq_from, lane_same}
use Rattle.kme_node.specs.Places.{AreApart, AreWithin, HaveBytes}

-- a property of all items of a concatenation

all_append : {A : Type 0} (P : A → Type 0) (xs ys : List A) → AllByRecursion P xs → AllByRecursion P ys → AllByRecursion P (xs ++ ys)
all_append P [] ys a b = b
all_append P (x ∷ xs) ys a b = (a.0, all_append P xs ys a.1 b)

all_map : {A B : Type 0} (P : B → Type 0) (f : A → B) (xs : List A) → ((x : A) → P (f x)) → AllByRecursion P (map f xs)
all_map P f [] each = tt
all_map P f (x ∷ xs) each = (each x, all_map P f xs each)

all_kept : {A : Type 0} (P : A → Type 0) (test : A → Bool) (xs : List A) → AllByRecursion P xs → AllByRecursion P (filter test xs)
all_kept P test [] a = tt
all_kept P test (x ∷ xs) a = elim (test x) as (λ t. AllByRecursion P (if t then x ∷ filter test xs else filter test xs)) [
  | true ↦ (a.0, all_kept P test xs a.1)
  | false ↦ all_kept P test xs a.1
]

pub all_both : {A : Type 0} (P Q R : A → Type 0) (xs : List A) → ((x : A) → P x → Q x → R x) → AllByRecursion P xs → AllByRecursion Q xs → AllByRecursion R xs
all_both P Q R [] each a b = tt
all_both P Q R (x ∷ xs) each a b = (each x a.0 b.0, all_both P Q R xs each a.1 b.1)

-- lanes

other_lane : (a b : Lane) → a ≢ b → lane_eq a b ≡ false
other_lane a b apart = elim (lane_eq a b) as (λ t. lane_eq a b ≡ t → t ≡ false) [ true ↦ λ e. absurd (apart (lane_eq_from a b e)) | false ↦ λ e. refl ] refl

abbrev AreOn : Lane → List Transmission → Type 0
AreOn l ts = AllByRecursion (λ (t : Transmission). t.lane ≡ l) ts

all_on : (l : Lane) (ts : List Transmission) → AreOn l ts → on_lane l ts ≡ ts
all_on l [] a = refl
all_on l (t ∷ ts) a =
    let same : lane_eq t.lane l ≡ true = ap (λ (k : Lane). lane_eq k l) a.0 ∙ lane_same l in
    ap (λ (b : Bool). if b then t ∷ on_lane l ts else on_lane l ts) same ∙ ap (λ (us : List Transmission). t ∷ us) (all_on l ts a.1)

none_on : (l m : Lane) (ts : List Transmission) → m ≢ l → AreOn m ts → on_lane l ts ≡ []
none_on l m [] apart a = refl
none_on l m (t ∷ ts) apart a =
    let other : lane_eq t.lane l ≡ false = ap (λ (k : Lane). lane_eq k l) a.0 ∙ other_lane m l apart in
    ap (λ (b : Bool). if b then t ∷ on_lane l ts else on_lane l ts) other ∙ none_on l m ts apart a.1

fitting : (P : Transmission → Type 0) (facts : List Fact) (received used : ℕ) (ts : List Transmission) → AllByRecursion P ts → AllByRecursion P (that_fit facts received used ts)
fitting P facts received used [] a = tt
fitting P facts received used (t ∷ ts) a =
    elim (nat_lt received (used + need facts t.item)) as (λ b. AllByRecursion P (if b then [] else t ∷ that_fit facts received (used + need facts t.item) ts)) [
      | true ↦ tt
      | false ↦ (a.0, fitting P facts received (used + need facts t.item) ts a.1)
    ]

fit_bound : (facts : List Fact) (received used : ℕ) (ts : List Transmission) → used ≤ received → used + needs facts (that_fit facts received used ts) ≤ received
fit_bound facts received used [] h = omega arith
fit_bound facts received used (t ∷ ts) h = elim (nat_lt received (used + need facts t.item)) as (λ b. nat_lt received (used + need facts t.item) ≡ b →
    used + needs facts (if b then [] else t ∷ that_fit facts received (used + need facts t.item) ts) ≤ received) [
      | true ↦ λ e. omega arith
      | false ↦ λ e. let le : used + need facts t.item ≤ received = grind (arith, nat_tests) in let r = fit_bound facts received (used + need facts t.item) ts le in omega (arith, r)
    ] refl

module _ (site : Site) (v : View) where
  orders_lane : (p : Port) → AreOn p.lane (orders_on site v p)
  unfolding orders_on wanted_on
  orders_lane p =
      let l = p.lane in
      let wanted : AreOn l (acks_on v l ++ facts_on site v l) =
      all_append (λ (t : Transmission). t.lane ≡ l) (acks_on v l) (facts_on site v l)
      (all_map (λ (t : Transmission). t.lane ≡ l) _ _ (λ a. refl)) (all_map (λ (t : Transmission). t.lane ≡ l) _ _ (λ n. refl)) in
      fitting (λ (t : Transmission). t.lane ≡ l) v.facts (received_of p) p.planned _
      (all_kept (λ (t : Transmission). t.lane ≡ l) (λ t. not (list_any _ v.volatile.awaiting)) (acks_on v l ++ facts_on site v l) wanted)

  orders_bound : (p : Port) → p.planned ≤ received_of p → p.planned + needs v.facts (orders_on site v p) ≤ received_of p
  unfolding orders_on
  orders_bound p h = fit_bound v.facts (received_of p) p.planned (wanted_on site v p.lane) h

  module _ (up : Port → Bool) where
    abbrev ordered : List Port → List Transmission
    ordered ports = flat_map (orders_on site v) (filter up ports)

    -- the orders of one end, and those of all ends
    abbrev mine : Port → List Transmission
    mine p = if up p then orders_on site v p else []

    ordered_cons : (p : Port) (ps : List Port) → ordered (p ∷ ps) ≡ mine p ++ ordered ps
    ordered_cons p ps = elim (up p) as (λ t. flat_map (orders_on site v) (if t then p ∷ filter up ps else filter up ps) ≡ (if t then orders_on site v p else []) ++ ordered ps) [
      | true ↦ flat_map-cons (orders_on site v) p (filter up ps)
      | false ↦ refl
    ]

    mine_lane : (p : Port) → AreOn p.lane (mine p)
    mine_lane p = elim (up p) as (λ t. AreOn p.lane (if t then orders_on site v p else [])) [ true ↦ orders_lane p | false ↦ tt ]

    mine_bound : (p : Port) → p.planned ≤ received_of p → p.planned + needs v.facts (mine p) ≤ received_of p
    mine_bound p h = elim (up p) as (λ t. p.planned + needs v.facts (if t then orders_on site v p else []) ≤ received_of p) [ true ↦ orders_bound p h | false ↦ omega arith ]

    -- the ends of other lanes order nothing on this one
    nothing_of : (l : Lane) (ps : List Port) → AllByRecursion (λ (q : Port). q.lane ≢ l) ps → on_lane l (ordered ps) ≡ []
    nothing_of l [] apart = refl
    nothing_of l (p ∷ ps) apart =
        ap (on_lane l) (ordered_cons p ps) ∙ filter-append (λ t. lane_eq t.lane l) (mine p) (ordered ps)
        ∙ ap (λ (ts : List Transmission). ts ++ on_lane l (ordered ps)) (none_on l p.lane (mine p) apart.0 (mine_lane p)) ∙ nothing_of l ps apart.1

    pub ordered_fit : (ports : List Port) → AreApart ports → AreWithin ports → HaveBytes v.facts (ordered ports) ports
    ordered_fit [] apart within = tt
    ordered_fit (p ∷ ps) apart within = (first, all_both _ _ _ ps others (ordered_fit ps apart.1 within.1) apart.0)
      where
        first : p.planned + needs v.facts (on_lane p.lane (ordered (p ∷ ps))) ≤ received_of p
        first =
            let is : on_lane p.lane (ordered (p ∷ ps)) ≡ mine p =
            ap (on_lane p.lane) (ordered_cons p ps) ∙ filter-append (λ t. lane_eq t.lane p.lane) (mine p) (ordered ps)
            ∙ ap (λ (ts : List Transmission). ts ++ on_lane p.lane (ordered ps)) (all_on p.lane (mine p) (mine_lane p))
            ∙ ap (λ (ts : List Transmission). mine p ++ ts) (nothing_of p.lane ps apart.0) ∙ append-nil (mine p) in
            subst (λ (ts : List Transmission). p.planned + needs v.facts ts ≤ received_of p) (sym is) (mine_bound p within.0)

        others : (q : Port) → q.planned + needs v.facts (on_lane q.lane (ordered ps)) ≤ received_of q → q.lane ≢ p.lane → q.planned + needs v.facts (on_lane q.lane (ordered (p ∷ ps))) ≤ received_of q
        others q h other =
            let is : on_lane q.lane (ordered (p ∷ ps)) ≡ on_lane q.lane (ordered ps) =
            ap (on_lane q.lane) (ordered_cons p ps) ∙ filter-append (λ t. lane_eq t.lane q.lane) (mine p) (ordered ps)
            ∙ ap (λ (ts : List Transmission). ts ++ on_lane q.lane (ordered ps)) (none_on q.lane p.lane (mine p) (λ e. other (sym e)) (mine_lane p)) in
            subst (λ (ts : List Transmission). q.planned + needs v.facts ts ≤ received_of q) (sym is) h
