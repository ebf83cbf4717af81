-- Lists of frames to be sent, lane by lane.
use Rattle.std.proofs.Common.{◌≡◌, true, false, List, [], ◌∷◌, ◌++◌, map, refl, ap, subst}
use Rattle.std.specs.Prelude.{if◌then◌else◌}
use Rattle.std.specs.List.{AllByRecursion}
use Rattle.qkd_base.specs.Lane.{lane_eq}
use Rattle.qkd_base.specs.declared.lane.Lane.{Lane}
use Rattle.net_model.specs.declared.order.Order.{Order}
use Rattle.net_model.specs.declared.repeat.Repeat.{Repeat}
use Rattle.net_model.specs.Tick.{Emission, Again, New}
use Rattle.law_base.proofs.Base.{lane_same, when_true}
use Rattle.law_locality.specs.Sending.{orders_in, repeats_in}
use Rattle.law_locality.proofs.Lists.{on}
use Rattle.law_parallel.specs.Putting.{lane_of}

pub orders_in-append : (xs ys : List Emission) → orders_in (xs ++ ys) ≡ orders_in xs ++ orders_in ys
orders_in-append [] ys = refl
orders_in-append (Again r ∷ xs) ys = orders_in-append xs ys
orders_in-append (New o ∷ xs) ys = ap (λ (os : List Order). o ∷ os) (orders_in-append xs ys)

pub repeats_in-append : (xs ys : List Emission) → repeats_in (xs ++ ys) ≡ repeats_in xs ++ repeats_in ys
repeats_in-append [] ys = refl
repeats_in-append (Again r ∷ xs) ys = ap (λ (rs : List Repeat). r ∷ rs) (repeats_in-append xs ys)
repeats_in-append (New o ∷ xs) ys = repeats_in-append xs ys

-- A list of repeats followed by new orders.

pub orders_of_both : (rs : List Repeat) (os : List Order) → orders_in (map Again rs ++ map New os) ≡ os
orders_of_both [] [] = refl
orders_of_both [] (o ∷ os) = ap (λ (xs : List Order). o ∷ xs) (orders_of_both [] os)
orders_of_both (r ∷ rs) os = orders_of_both rs os

pub repeats_of_both : (rs : List Repeat) (os : List Order) → repeats_in (map Again rs ++ map New os) ≡ rs
repeats_of_both [] [] = refl
repeats_of_both [] (o ∷ os) = repeats_of_both [] os
repeats_of_both (r ∷ rs) os = ap (λ (xs : List Repeat). r ∷ xs) (repeats_of_both rs os)

-- The orders and repeats on a lane are those of the frames on the lane.

pub orders_on : (l : Lane) (es : List Emission) → on (λ (o : Order). o.lane) l (orders_in es) ≡ orders_in (on lane_of l es)
orders_on l [] = refl
orders_on l (Again r ∷ es) =
    elim (lane_eq r.lane l) as (λ t. on (λ (o : Order). o.lane) l (orders_in es) ≡ orders_in (if t then Again r ∷ on lane_of l es else on lane_of l es)) [
      | true ↦ orders_on l es
      | false ↦ orders_on l es
    ]
orders_on l (New o ∷ es) =
    elim (lane_eq o.lane l) as (λ t. (if t then o ∷ on (λ (x : Order). x.lane) l (orders_in es) else on (λ (x : Order). x.lane) l (orders_in es)) ≡
    orders_in (if t then New o ∷ on lane_of l es else on lane_of l es)) [
      | true ↦ ap (λ (os : List Order). o ∷ os) (orders_on l es)
      | false ↦ orders_on l es
    ]

pub repeats_on_lane : (l : Lane) (es : List Emission) → on (λ (r : Repeat). r.lane) l (repeats_in es) ≡ repeats_in (on lane_of l es)
repeats_on_lane l [] = refl
repeats_on_lane l (New o ∷ es) =
    elim (lane_eq o.lane l) as (λ t. on (λ (r : Repeat). r.lane) l (repeats_in es) ≡ repeats_in (if t then New o ∷ on lane_of l es else on lane_of l es)) [
      | true ↦ repeats_on_lane l es
      | false ↦ repeats_on_lane l es
    ]
repeats_on_lane l (Again r ∷ es) =
    elim (lane_eq r.lane l) as (λ t. (if t then r ∷ on (λ (x : Repeat). x.lane) l (repeats_in es) else on (λ (x : Repeat). x.lane) l (repeats_in es)) ≡
    repeats_in (if t then Again r ∷ on lane_of l es else on lane_of l es)) [
      | true ↦ ap (λ (rs : List Repeat). r ∷ rs) (repeats_on_lane l es)
      | false ↦ repeats_on_lane l es
    ]

-- A property holds of all items exactly if it holds, for each lane, of all items on the lane.

module _ {A : Type 0} (lane : A → Lane) (P : A → Type 0) where
  later : (l : Lane) (x : A) (xs : List A) → AllByRecursion P (on lane l (x ∷ xs)) → AllByRecursion P (on lane l xs)
  later l x xs h =
      elim (lane_eq (lane x) l) as (λ t. AllByRecursion P (if t then x ∷ on lane l xs else on lane l xs) → AllByRecursion P (on lane l xs)) [
        | true ↦ λ a. a.1
        | false ↦ λ a. a
      ] h

  pub all_by_lane : (xs : List A) → ((l : Lane) → AllByRecursion P (on lane l xs)) → AllByRecursion P xs
  all_by_lane [] h = tt
  all_by_lane (x ∷ xs) h =
      let here : AllByRecursion P (x ∷ on lane (lane x) xs) = subst (AllByRecursion P) (when_true (lane_eq (lane x) (lane x)) (x ∷ on lane (lane x) xs) (on lane (lane x) xs) (lane_same (lane x))) (h (lane x)) in
      (here.0, all_by_lane xs (λ l. later l x xs (h l)))

pub all_unmapped : {A B : Type 0} (P : B → Type 0) (f : A → B) (xs : List A) → AllByRecursion P (map f xs) → AllByRecursion (λ (x : A). P (f x)) xs
all_unmapped P f [] a = tt
all_unmapped P f (x ∷ xs) a = (a.0, all_unmapped P f xs a.1)
