-- A list that is made lane by lane has, on each lane, just the part made for that lane.
use Rattle.std.proofs.Common.{◌≡◌, ℕ, zero, suc, Bool, true, false, ◌&&◌, List, [], ◌∷◌, ◌++◌, refl, sym, ◌∙◌, ap, append-nil, arith}
use Rattle.std.specs.Prelude.{◌==◌, nat_lt, if◌then◌else◌}
use Rattle.std.specs.List.{flat_map, AllByRecursion}
use Rattle.std.proofs.lemmas.Bool.Decides.{nat_tests}
use Rattle.std.proofs.lemmas.Grind.{flat_map-append}
use Rattle.std.proofs.lemmas.List.Elements.{filter-append}
use Rattle.qkd_base.specs.Lane.{lane_eq, way_eq}
use Rattle.qkd_base.specs.declared.lane.Way.{Way}
use Rattle.qkd_base.specs.declared.lane.Way.TheVariants.{Up, Down}
use Rattle.qkd_base.specs.declared.lane.Lane.{Lane}
use Rattle.net_model.specs.Site.{Site, count_up, lane_of as lane_at}
use Rattle.net_model.specs.Events.{is_lane}
use Rattle.run_model.specs.Lines.{all_lanes}
use Rattle.law_base.proofs.Base.{eq_from, eq_same, lane_same, lane_eq_from, when_true, when_false}
use Rattle.law_locality.proofs.Lists.{on}

abbrev pub lanes_of : ℕ → List Lane
lanes_of link = lane_at link Up ∷ lane_at link Down ∷ []

abbrev pub lanes_below : ℕ → List Lane
lanes_below n = flat_map lanes_of (count_up n)

-- Lemmas on the lanes of the next link and on lanes of no link.
lower : (a n : ℕ) → (a == n) ≡ false → nat_lt a (suc n) ≡ nat_lt a n
lower a n h = grind (arith, nat_tests)

pub none_lower : (a : ℕ) → nat_lt a 0 ≡ false
none_lower a = grind (arith, nat_tests)

last_lower : (n : ℕ) → nat_lt n (suc n) ≡ true
last_lower n = grind (arith, nat_tests)

not_itself : (n : ℕ) → nat_lt n n ≡ false
not_itself n = grind (arith, nat_tests)

module _ {A : Type 0} (lane : A → Lane) where
  abbrev pub AreOn : Lane → List A → Type 0
  AreOn l xs = AllByRecursion (λ (x : A). lane x ≡ l) xs

  pub on_own : (l : Lane) (xs : List A) → AreOn l xs → on lane l xs ≡ xs
  on_own l [] h = refl
  on_own l (x ∷ xs) h =
      when_true (lane_eq (lane x) l) (x ∷ on lane l xs) (on lane l xs) (ap (λ (k : Lane). lane_eq k l) h.0 ∙ lane_same l) ∙ ap (λ (ys : List A). x ∷ ys) (on_own l xs h.1)

  pub on_other : (k l : Lane) → lane_eq k l ≡ false → (xs : List A) → AreOn k xs → on lane l xs ≡ []
  on_other k l away [] h = refl
  on_other k l away (x ∷ xs) h =
      when_false (lane_eq (lane x) l) (x ∷ on lane l xs) (on lane l xs) (ap (λ (m : Lane). lane_eq m l) h.0 ∙ away) ∙ on_other k l away xs h.1

  pub are_on : (l : Lane) (xs : List A) → AreOn l (on lane l xs)
  are_on l [] = tt
  are_on l (x ∷ xs) =
      elim (lane_eq (lane x) l) as (λ t. lane_eq (lane x) l ≡ t → AreOn l (if t then x ∷ on lane l xs else on lane l xs)) [
        | true ↦ λ e. (lane_eq_from (lane x) l e, are_on l xs)
        | false ↦ λ e. are_on l xs
      ] refl

  module _ (f : Lane → List A) (mine : (l : Lane) → AreOn l (f l)) where
    abbrev here : Lane → ℕ → List A
    here l n = if nat_lt l.link n then f l else []

    on_one : (k l : Lane) → on lane l (f k) ≡ (if lane_eq k l then f l else [])
    on_one k l = elim (lane_eq k l) as (λ t. lane_eq k l ≡ t → on lane l (f k) ≡ (if t then f l else [])) [
      | true ↦ λ e. ap (λ (m : Lane). on lane l (f m)) (lane_eq_from k l e) ∙ on_own l (f l) (mine l)
      | false ↦ λ e. on_other k l e (f k) (mine k)
    ] refl

    of_link : (link : ℕ) (l : Lane) → on lane l (f (lane_at link Up) ++ (f (lane_at link Down) ++ [])) ≡ (if link == l.link then f l else [])
    of_link link l =
        ap (λ (xs : List A). on lane l (f (lane_at link Up) ++ xs)) (append-nil (f (lane_at link Down)))
        ∙ filter-append (λ (x : A). lane_eq (lane x) l) (f (lane_at link Up)) (f (lane_at link Down))
        ∙ ap (λ (xs : List A). xs ++ on lane l (f (lane_at link Down))) (on_one (lane_at link Up) l)
        ∙ ap (λ (xs : List A). (if lane_eq (lane_at link Up) l then f l else []) ++ xs) (on_one (lane_at link Down) l)
        ∙ by_way (link == l.link) l.way
      where
        by_way : (b : Bool) (way : Way) → (if b && way_eq Up way then f l else []) ++ (if b && way_eq Down way then f l else []) ≡ (if b then f l else [])
        by_way true Up = append-nil (f l)
        by_way true Down = refl
        by_way false way = refl

    at_link : (n : ℕ) (l : Lane) → here l n ++ on lane l (f (lane_at n Up) ++ (f (lane_at n Down) ++ [])) ≡ here l (suc n)
    at_link n l =
        ap (λ (xs : List A). here l n ++ xs) (of_link n l) ∙
        (elim (l.link == n) as (λ t. (l.link == n) ≡ t → here l n ++ (if n == l.link then f l else []) ≡ here l (suc n)) [
          | true ↦ λ e.
              let is : l.link ≡ n = eq_from l.link n e in
              let first : here l n ≡ [] = when_false (nat_lt l.link n) (f l) [] (ap (λ (m : ℕ). nat_lt m n) is ∙ not_itself n) in
              let mine' : (if n == l.link then f l else []) ≡ f l = when_true (n == l.link) (f l) [] (ap (λ (m : ℕ). n == m) is ∙ eq_same n) in
              let all : here l (suc n) ≡ f l = when_true (nat_lt l.link (suc n)) (f l) [] (ap (λ (m : ℕ). nat_lt m (suc n)) is ∙ last_lower n) in
              ap (λ (xs : List A). xs ++ (if n == l.link then f l else [])) first ∙ mine' ∙ sym all
          | false ↦ λ e.
              let none : (if n == l.link then f l else []) ≡ [] = when_false (n == l.link) (f l) [] (other n l.link e) in
              ap (λ (xs : List A). here l n ++ xs) none ∙ append-nil (here l n) ∙ ap (λ (b : Bool). if b then f l else []) (sym (lower l.link n e))
        ] refl)
      where
        other : (n a : ℕ) → (a == n) ≡ false → (n == a) ≡ false
        other n a h = grind (arith, nat_tests)

    on_below : (l : Lane) (n : ℕ) → on lane l (flat_map f (lanes_below n)) ≡ here l n
    on_below l zero = sym (when_false (nat_lt l.link 0) (f l) [] (none_lower l.link))
    on_below l (suc n) =
        let split : flat_map f (lanes_below (suc n)) ≡ flat_map f (lanes_below n) ++ (f (lane_at n Up) ++ (f (lane_at n Down) ++ [])) =
        ap (flat_map f) (flat_map-append lanes_of (count_up n) (n ∷ [])) ∙ flat_map-append f (lanes_below n) (lane_at n Up ∷ lane_at n Down ∷ []) in
        ap (on lane l) split ∙ filter-append (λ (x : A). lane_eq (lane x) l) (flat_map f (lanes_below n)) (f (lane_at n Up) ++ (f (lane_at n Down) ++ []))
        ∙ ap (λ (xs : List A). xs ++ on lane l (f (lane_at n Up) ++ (f (lane_at n Down) ++ []))) (on_below l n) ∙ at_link n l

    pub on_declared : (s : Site) (l : Lane) → on lane l (flat_map f (all_lanes s)) ≡ (if is_lane s l then f l else [])
    on_declared s l = on_below l s.links

    -- On every lane, declared or not, the list has just the part made for it, if nothing is made for undeclared
    -- lanes.
    pub on_lane : (s : Site) → ((l : Lane) → is_lane s l ≡ false → f l ≡ []) → (l : Lane) → on lane l (flat_map f (all_lanes s)) ≡ f l
    on_lane s none l =
        on_declared s l ∙
        (elim (is_lane s l) as (λ t. is_lane s l ≡ t → (if t then f l else []) ≡ f l) [
          | true ↦ λ e. refl
          | false ↦ λ e. sym (none l e)
        ] refl)
