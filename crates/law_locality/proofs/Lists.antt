-- The orders and repeats of a tick, lane by lane.
use Rattle.std.proofs.Common.{◌≡◌, true, false, Bool, ◌||◌, List, [], ◌∷◌, ◌++◌, map, refl, sym, ◌∙◌, ap, subst, append-nil, ℕ}
use Rattle.std.specs.Prelude.{filter, if◌then◌else◌}
use Rattle.std.specs.List.{list_any, flat_map, AllByRecursion}
use Rattle.std.proofs.lemmas.List.Elements.{filter-append}
use Rattle.qkd_base.specs.Lane.{lane_eq}
use Rattle.qkd_base.specs.declared.lane.Lane.{Lane}
use Rattle.net_model.specs.declared.order.Order.{Order}
use Rattle.net_model.specs.declared.repeat.Repeat.{Repeat}
use Rattle.net_model.specs.Site.{Site}
use Rattle.net_model.specs.Tick.{Emission, Again, New, tick_order}
use Rattle.law_base.proofs.Base.{lane_eq_from, not_both, not_false, when_true, when_false}
use Rattle.law_base.proofs.Lists.{all_both, all_kept}
use Rattle.law_invariant.proofs.Outgoing.{AreOutgoing}
use Rattle.law_locality.specs.Sending.{orders_in, repeats_in}

pub all_weaker : {A : Type 0} (P Q : A → Type 0) → ((x : A) → P x → Q x) → (xs : List A) → AllByRecursion P xs → AllByRecursion Q xs
all_weaker P Q h [] a = tt
all_weaker P Q h (x ∷ xs) a = (h x a.0, all_weaker P Q h xs a.1)

pub all_mapped : {A B : Type 0} (P : B → Type 0) (f : A → B) (xs : List A) → AllByRecursion (λ (x : A). P (f x)) xs → AllByRecursion P (map f xs)
all_mapped P f [] a = tt
all_mapped P f (x ∷ xs) a = (a.0, all_mapped P f xs a.1)

pub map_kept : {A B : Type 0} (p : B → Bool) (f : A → B) (xs : List A) → filter p (map f xs) ≡ map f (filter (λ (x : A). p (f x)) xs)
map_kept p f [] = refl
map_kept {A} {B} p f (x ∷ xs) =
    elim (p (f x)) as (λ t. (if t then f x ∷ filter p (map f xs) else filter p (map f xs)) ≡ map f (if t then x ∷ filter (λ (y : A). p (f y)) xs else filter (λ (y : A). p (f y)) xs)) [
      | true ↦ ap (λ (ys : List B). f x ∷ ys) (map_kept p f xs)
      | false ↦ map_kept p f xs
    ]

-- Taking items lane by lane takes each of them once.

module _ {A : Type 0} (lane : A → Lane) where
  abbrev pub on : Lane → List A → List A
  on l xs = filter (λ (x : A). lane_eq (lane x) l) xs

  twice : (l : Lane) (xs : List A) → on l (on l xs) ≡ on l xs
  twice l [] = refl
  twice l (x ∷ xs) =
      elim (lane_eq (lane x) l) as (λ t. lane_eq (lane x) l ≡ t → on l (if t then x ∷ on l xs else on l xs) ≡ (if t then x ∷ on l xs else on l xs)) [
        | true ↦ λ e. when_true (lane_eq (lane x) l) (x ∷ on l (on l xs)) (on l (on l xs)) e ∙ ap (λ (ys : List A). x ∷ ys) (twice l xs)
        | false ↦ λ e. twice l xs
      ] refl

  apart : (k l : Lane) → lane_eq k l ≡ false → (xs : List A) → on l (on k xs) ≡ []
  apart k l h [] = refl
  apart k l h (x ∷ xs) =
      elim (lane_eq (lane x) k) as (λ t. lane_eq (lane x) k ≡ t → on l (if t then x ∷ on k xs else on k xs) ≡ []) [
        | true ↦ λ e.
            when_false (lane_eq (lane x) l) (x ∷ on l (on k xs)) (on l (on k xs)) (ap (λ (m : Lane). lane_eq m l) (lane_eq_from (lane x) k e) ∙ h) ∙ apart k l h xs
        | false ↦ λ e. apart k l h xs
      ] refl

  module _ (s : Site) (v : ℕ) (l : Lane) (xs : List A) where
    abbrev is_in : List Lane → Bool
    is_in ls = list_any (λ k. lane_eq k l) ls

    part : (ls : List Lane) → AreOutgoing s v ls → on l (flat_map (λ k. on k xs) ls) ≡ (if is_in ls then on l xs else [])
    part [] ok = refl
    part (k ∷ ls) ok =
        let rest = part ls ok.2 in
        filter-append (λ (x : A). lane_eq (lane x) l) (on k xs) (flat_map (λ k. on k xs) ls) ∙
        (elim (lane_eq k l) as (λ t. lane_eq k l ≡ t → on l (on k xs) ++ on l (flat_map (λ k. on k xs) ls) ≡ (if t || is_in ls then on l xs else [])) [
          | true ↦ λ e.
              let is : k ≡ l = lane_eq_from k l e in
              let none : is_in ls ≡ false = subst (λ (m : Lane). list_any (λ n. lane_eq n m) ls ≡ false) is ok.1 in
              let here : on l (on k xs) ≡ on l xs = ap (λ (m : Lane). on l (on m xs)) is ∙ twice l xs in
              let nothing : on l (flat_map (λ k. on k xs) ls) ≡ [] = rest ∙ when_false (is_in ls) (on l xs) [] none in
              ap (λ (ys : List A). ys ++ on l (flat_map (λ k. on k xs) ls)) here ∙ ap (λ (ys : List A). on l xs ++ ys) nothing ∙ append-nil (on l xs)
          | false ↦ λ e. ap (λ (ys : List A). ys ++ on l (flat_map (λ k. on k xs) ls)) (apart k l e xs) ∙ rest
        ] refl)

  abbrev pub AreOf : List Lane → List A → Type 0
  AreOf ls xs = AllByRecursion (λ (x : A). list_any (λ k. lane_eq k (lane x)) ls ≡ true) xs

  none_on : (l : Lane) (ls : List Lane) → list_any (λ k. lane_eq k l) ls ≡ false → (xs : List A) → AreOf ls xs → on l xs ≡ []
  none_on l ls none [] h = refl
  none_on l ls none (x ∷ xs) h =
      let away : lane_eq (lane x) l ≡ false =
      not_false (lane_eq (lane x) l)
      (λ e. not_both (list_any (λ k. lane_eq k l) ls) (subst (λ (m : Lane). list_any (λ k. lane_eq k m) ls ≡ true) (lane_eq_from (lane x) l e) h.0) none) in
      when_false (lane_eq (lane x) l) (x ∷ on l xs) (on l xs) away ∙ none_on l ls none xs h.1

  pub each_once : (s : Site) (v : ℕ) (l : Lane) (ls : List Lane) → AreOutgoing s v ls → (xs : List A) → AreOf ls xs → on l (flat_map (λ k. on k xs) ls) ≡ on l xs
  each_once s v l ls ok xs h =
      part s v l xs ls ok ∙
      (elim (list_any (λ k. lane_eq k l) ls) as (λ t. list_any (λ k. lane_eq k l) ls ≡ t → (if t then on l xs else []) ≡ on l xs) [
        | true ↦ λ e. refl
        | false ↦ λ e. sym (none_on l ls e xs h)
      ] refl)

-- Lemmas on the order of a tick.

orders_in-append : (xs ys : List Emission) → orders_in (xs ++ ys) ≡ orders_in xs ++ orders_in ys
orders_in-append [] ys = refl
orders_in-append (Again r ∷ xs) ys = orders_in-append xs ys
orders_in-append (New o ∷ xs) ys = ap (λ (os : List Order). o ∷ os) (orders_in-append xs ys)

repeats_in-append : (xs ys : List Emission) → repeats_in (xs ++ ys) ≡ repeats_in xs ++ repeats_in ys
repeats_in-append [] ys = refl
repeats_in-append (Again r ∷ xs) ys = ap (λ (rs : List Repeat). r ∷ rs) (repeats_in-append xs ys)
repeats_in-append (New o ∷ xs) ys = repeats_in-append xs ys

orders_of_both : (rs : List Repeat) (os : List Order) → orders_in (map Again rs ++ map New os) ≡ os
orders_of_both [] [] = refl
orders_of_both [] (o ∷ os) = ap (λ (xs : List Order). o ∷ xs) (orders_of_both [] os)
orders_of_both (r ∷ rs) os = orders_of_both rs os

repeats_of_both : (rs : List Repeat) (os : List Order) → repeats_in (map Again rs ++ map New os) ≡ rs
repeats_of_both [] [] = refl
repeats_of_both [] (o ∷ os) = repeats_of_both [] os
repeats_of_both (r ∷ rs) os = ap (λ (xs : List Repeat). r ∷ xs) (repeats_of_both rs os)

module _ (repeats : List Repeat) (orders : List Order) where
  abbrev mine : Lane → List Repeat
  mine l = filter (λ (r : Repeat). lane_eq r.lane l) repeats

  abbrev ours : Lane → List Order
  ours l = filter (λ (o : Order). lane_eq o.lane l) orders

  pub tick_orders : (ls : List Lane) → orders_in (tick_order ls repeats orders) ≡ flat_map ours ls
  unfolding tick_order
  tick_orders [] = refl
  tick_orders (l ∷ ls) =
      orders_in-append (map Again (mine l) ++ map New (ours l)) _ ∙ ap (λ (xs : List Order). xs ++ orders_in (tick_order ls repeats orders)) (orders_of_both (mine l) (ours l))
      ∙ ap (λ (xs : List Order). ours l ++ xs) (tick_orders ls)

  pub tick_repeats : (ls : List Lane) → repeats_in (tick_order ls repeats orders) ≡ flat_map mine ls
  unfolding tick_order
  tick_repeats [] = refl
  tick_repeats (l ∷ ls) =
      repeats_in-append (map Again (mine l) ++ map New (ours l)) _ ∙ ap (λ (xs : List Repeat). xs ++ repeats_in (tick_order ls repeats orders)) (repeats_of_both (mine l) (ours l))
      ∙ ap (λ (xs : List Repeat). mine l ++ xs) (tick_repeats ls)

  pub tick_all : (P : Emission → Type 0) → AllByRecursion (λ (r : Repeat). P (Again r)) repeats → AllByRecursion (λ (o : Order). P (New o)) orders → (ls : List Lane) →
      AllByRecursion P (tick_order ls repeats orders)
  unfolding tick_order
  tick_all P h k [] = tt
  tick_all P h k (l ∷ ls) =
      all_both P (map Again (mine l) ++ map New (ours l)) _
      (all_both P (map Again (mine l)) (map New (ours l))
      (all_mapped P Again (mine l) (all_kept (λ (r : Repeat). P (Again r)) (λ (r : Repeat). lane_eq r.lane l) repeats h))
      (all_mapped P New (ours l) (all_kept (λ (o : Order). P (New o)) (λ (o : Order). lane_eq o.lane l) orders k)))
      (tick_all P h k ls)
