-- How many frames of each kind a log claims, repeats and puts.
use Rattle.std.proofs.Common.{◌≡◌, ℕ, zero, suc, ◌+◌, Bool, true, false, not, ◌&&◌, List, [], ◌∷◌, length, map, refl, sym, ◌∙◌, ap, arith, Option, Some, None}
use Rattle.std.specs.Prelude.{count_by, slice_get}
use Rattle.std.specs.List.{list_all, flat_map, AllByRecursion}
use Rattle.qkd_base.specs.Lane.{lane_eq}
use Rattle.qkd_base.specs.declared.lane.Lane.{Lane}
use Rattle.net_model.specs.declared.fact.Fact.{Fact}
use Rattle.net_model.specs.declared.order.Order.{Order}
use Rattle.net_model.specs.declared.repeat.Repeat.{Repeat}
use Rattle.net_model.specs.Item.{need}
use Rattle.net_model.specs.Site.{count_up}
use Rattle.net_model.specs.World.{World, Allocation}
use Rattle.net_model.specs.Handle.{frame_at}
use Rattle.net_model.specs.Tick.{Emission, Again, New, item_in}
use Rattle.net_model.specs.Action.{Environment}
use Rattle.law_base.proofs.Base.{and_left, and_right, and_both, lane_eq_from, lane_same}
use Rattle.law_locality.proofs.Counting.{one_if, count_more}
use Rattle.law_locality.specs.Sending.{orders_in, repeats_in}
use Rattle.law_parallel.specs.Putting.{lane_of}
use Rattle.law_parallel.proofs.Counting.{count-append}
use Rattle.law_parallel.specs.Logs.{Deed, Claims, Puts, Repeats, claims_in, claims_put, done_for_plans, HaveTheSame}
use Rattle.law_parallel.specs.Puts.{LaneFrame, claimed_from, new_frames, with_answer, put_by, frames_put}

-- Lists with the same items pass the same tests.

no_others : {A : Type 0} (p : A → Bool) (xs : List A) → list_all p xs ≡ true → count_by (λ x. not (p x)) xs ≡ 0
no_others p [] h = refl
no_others p (x ∷ xs) h =
    let rest = no_others p xs (and_right (p x) (list_all p xs) h) in
    let more = count_more (λ y. not (p y)) x xs in
    let none : one_if (not (p x)) ≡ 0 = ap (λ (b : Bool). one_if (not b)) (and_left (p x) (list_all p xs) h) in
    omega (arith, rest, more, none)

all_others : {A : Type 0} (p : A → Bool) (xs : List A) → count_by (λ x. not (p x)) xs ≡ 0 → list_all p xs ≡ true
all_others p [] h = refl
all_others p (x ∷ xs) h =
    let more = count_more (λ y. not (p y)) x xs in
    elim (p x) as (λ b. p x ≡ b → one_if (not (p x)) ≡ one_if (not b) → (b && list_all p xs) ≡ true) [
      | true ↦ λ e k. all_others p xs (omega (arith, h, more, k))
      | false ↦ λ e k. absurd (omega (arith, h, more, k))
    ] refl refl

pub all_alike : {A : Type 0} (p : A → Bool) (xs ys : List A) → HaveTheSame xs ys → list_all p ys ≡ true → list_all p xs ≡ true
all_alike p xs ys same h = all_others p xs (same (λ x. not (p x)) ∙ no_others p ys h)

-- The frame is on this lane.

abbrev pub is_on : Lane → ℕ × Emission → Bool
is_on l x = lane_eq (lane_of x.1) l

abbrev pub lane_wanted : ℕ × Emission → Lane
lane_wanted x = lane_of x.1

abbrev pub lane_claimed : ℕ × Order → Lane
lane_claimed x = (x.1).lane

pub all_kept_on : (l : Lane) (xs : List (ℕ × Emission)) → AllByRecursion (λ (x : ℕ × Emission). lane_wanted x ≡ l) xs → list_all (is_on l) xs ≡ true
all_kept_on l [] h = refl
all_kept_on l (x ∷ xs) h = and_both (is_on l x) (list_all (is_on l) xs) (ap (λ (k : Lane). lane_eq k l) h.0 ∙ lane_same l) (all_kept_on l xs h.1)

pub claims_on : (l : Lane) (log : List Deed) → list_all (is_on l) (done_for_plans log) ≡ true → AllByRecursion (λ (x : ℕ × Order). lane_claimed x ≡ l) (claims_in log)
claims_on l [] h = tt
claims_on l (Claims place o ∷ log) h =
    (lane_eq_from o.lane l (and_left (lane_eq o.lane l) (list_all (is_on l) (done_for_plans log)) h), claims_on l log (and_right (lane_eq o.lane l) (list_all (is_on l) (done_for_plans log)) h))
claims_on l (Puts claim answer ∷ log) h = claims_on l log h
claims_on l (Repeats place r answer ∷ log) h = claims_on l log (and_right (lane_eq r.lane l) (list_all (is_on l) (done_for_plans log)) h)

-- Lemmas on new orders alone and on repeats alone.

abbrev pub if_new : (ℕ × Order → Bool) → ℕ × Emission → Bool
if_new p (place, Again r) = false
if_new p (place, New o) = p (place, o)

abbrev pub if_again : (ℕ × Repeat → Bool) → ℕ × Emission → Bool
if_again p (place, Again r) = p (place, r)
if_again p (place, New o) = false

pub news_claimed : (p : ℕ × Order → Bool) (log : List Deed) → count_by (if_new p) (done_for_plans log) ≡ count_by p (claims_in log)
news_claimed p [] = refl
news_claimed p (Claims place o ∷ log) =
    let rest = news_claimed p log in
    let one = count_more (if_new p) (place, New o) (done_for_plans log) in
    let two = count_more p (place, o) (claims_in log) in
    omega (arith, rest, one, two)
news_claimed p (Puts claim answer ∷ log) = news_claimed p log
news_claimed p (Repeats place r answer ∷ log) = news_claimed p log

pub news_wanted : (p : Order → Bool) (xs : List (ℕ × Emission)) → count_by (if_new (λ x. p x.1)) xs ≡ count_by p (orders_in (map (λ (x : ℕ × Emission). x.1) xs))
news_wanted p [] = refl
news_wanted p ((place, Again r) ∷ xs) = news_wanted p xs
news_wanted p ((place, New o) ∷ xs) =
    let rest = news_wanted p xs in
    let one = count_more (if_new (λ x. p x.1)) (place, New o) xs in
    let two = count_more p o (orders_in (map (λ (x : ℕ × Emission). x.1) xs)) in
    omega (arith, rest, one, two)

pub repeats_wanted : (p : Repeat → Bool) (xs : List (ℕ × Emission)) → count_by (if_again (λ x. p x.1)) xs ≡ count_by p (repeats_in (map (λ (x : ℕ × Emission). x.1) xs))
repeats_wanted p [] = refl
repeats_wanted p ((place, New o) ∷ xs) = repeats_wanted p xs
repeats_wanted p ((place, Again r) ∷ xs) =
    let rest = repeats_wanted p xs in
    let one = count_more (if_again (λ x. p x.1)) (place, Again r) xs in
    let two = count_more p r (repeats_in (map (λ (x : ℕ × Emission). x.1) xs)) in
    omega (arith, rest, one, two)

pub both_kinds : (p : ℕ × Emission → Bool) (xs : List (ℕ × Emission)) →
    count_by p xs ≡ count_by (if_new (λ x. p (x.0, New (x.1)))) xs + count_by (if_again (λ x. p (x.0, Again (x.1)))) xs
both_kinds p [] = refl
both_kinds p ((place, Again r) ∷ xs) =
    let rest = both_kinds p xs in
    let one = count_more p (place, Again r) xs in
    let two = count_more (if_again (λ x. p (x.0, Again (x.1)))) (place, Again r) xs in
    omega (arith, rest, one, two)
both_kinds p ((place, New o) ∷ xs) =
    let rest = both_kinds p xs in
    let one = count_more p (place, New o) xs in
    let two = count_more (if_new (λ x. p (x.0, New (x.1)))) (place, New o) xs in
    omega (arith, rest, one, two)

-- Lemmas on the frames of claims.

pub claimed_length : (facts : List Fact) (number offset : ℕ) (xs : List (ℕ × Order)) → length (claimed_from facts number offset xs) ≡ length xs
claimed_length facts number offset [] = refl
claimed_length facts number offset (x ∷ xs) = ap suc (claimed_length facts (number + 1) (offset + need facts (item_in (x.1).payload)) xs)

pub claimed_counted : (p : ℕ × Emission → Bool) (facts : List Fact) (number offset : ℕ) (xs : List (ℕ × Order)) →
    count_by (λ (f : LaneFrame). p (f.place, f.emission)) (claimed_from facts number offset xs) ≡ count_by (λ (x : ℕ × Order). p (x.0, New (x.1))) xs
claimed_counted p facts number offset [] = refl
claimed_counted p facts number offset (x ∷ xs) =
    let next : ℕ = offset + need facts (item_in (x.1).payload) in
    let rest = claimed_counted p facts (number + 1) next xs in
    let one = count_more (λ (f : LaneFrame). p (f.place, f.emission)) (record { place = x.0; emission = New (x.1); number = number; offset = offset }) (claimed_from facts (number + 1) next xs) in
    let two = count_more (λ (y : ℕ × Order). p (y.0, New (y.1))) x xs in
    omega (arith, rest, one, two)

-- Lemmas on the numbers below a bound.

pub count_first : (p : ℕ → Bool) (n : ℕ) → count_by p (count_up (suc n)) ≡ one_if (p 0) + count_by (λ k. p (suc k)) (count_up n)
count_first p zero = count_more p 0 []
count_first p (suc n) =
    let rest = count_first p n in
    let one = count-append p (count_up (suc n)) (suc n ∷ []) in
    let two = count-append (λ k. p (suc k)) (count_up n) (n ∷ []) in
    let three = count_more p (suc n) [] in
    let four = count_more (λ k. p (suc k)) n [] in
    omega (arith, rest, one, two, three, four)

module _ (p : LaneFrame → Bool) where
  abbrev pub if_there : Option LaneFrame → Bool
  if_there None = false
  if_there (Some f) = p f

  pub each_counted : (fs : List LaneFrame) → count_by (λ n. if_there (slice_get fs n)) (count_up (length fs)) ≡ count_by p fs
  each_counted [] = refl
  each_counted (f ∷ fs) =
      let first = count_first (λ n. if_there (slice_get (f ∷ fs) n)) (length fs) in
      let rest = each_counted fs in
      let more = count_more p f fs in
      omega (arith, first, rest, more)

-- Lemmas on the frames that are put.

abbrev pub again_frame : List Allocation → ℕ × Repeat → LaneFrame
again_frame older x = record { place = x.0; emission = Again (x.1); number = frame_at older (x.1).offset; offset = (x.1).offset }

module _ (p : LaneFrame → Bool) (older : List Allocation) (new : List LaneFrame) where
  abbrev passes : LaneFrame × Environment → Bool
  passes x = p x.0

  one_counted : (answer : Environment) (o : Option LaneFrame) → count_by passes (with_answer answer o) ≡ one_if (if_there p o)
  one_counted answer None = refl
  one_counted answer (Some f) = let one = count_more passes (f, answer) [] in omega (arith, one)

  frames_counted : (log : List Deed) → count_by passes (flat_map (put_by older new) log) ≡
      count_by (λ n. if_there p (slice_get new n)) (claims_put log) + count_by (if_again (λ x. p (again_frame older x))) (done_for_plans log)
  frames_counted [] = refl
  frames_counted (Claims place o ∷ log) = frames_counted log
  frames_counted (Puts claim answer ∷ log) =
      let both = count-append passes (with_answer answer (slice_get new claim)) (flat_map (put_by older new) log) in
      let one = one_counted answer (slice_get new claim) in
      let rest = frames_counted log in
      let more = count_more (λ n. if_there p (slice_get new n)) claim (claims_put log) in
      omega (arith, both, one, rest, more)
  frames_counted (Repeats place r answer ∷ log) =
      let rest = frames_counted log in
      let one = count_more passes (again_frame older (place, r), answer) (flat_map (put_by older new) log) in
      let two = count_more (if_again (λ x. p (again_frame older x))) (place, Again r) (done_for_plans log) in
      omega (arith, rest, one, two)

module _ (w : World) (l : Lane) (log : List Deed) (put : HaveTheSame (claims_put log) (count_up (length (claims_in log)))) where
  pub puts_counted : (p : LaneFrame → Bool) → count_by (λ (x : LaneFrame × Environment). p x.0) (frames_put w l log) ≡
      count_by p (new_frames w l log) + count_by (if_again (λ x. p (again_frame (w.frames l) x))) (done_for_plans log)
  puts_counted p =
      let new : List LaneFrame = new_frames w l log in
      let all = frames_counted p (w.frames l) new log in
      let each = put (λ n. if_there p (slice_get new n)) in
      let size : length new ≡ length (claims_in log) = claimed_length w.durable.facts (length (w.frames l)) (length (w.durable.own l)) (claims_in log) in
      let same : count_by (λ n. if_there p (slice_get new n)) (count_up (length (claims_in log))) ≡ count_by (λ n. if_there p (slice_get new n)) (count_up (length new)) =
      ap (λ (k : ℕ). count_by (λ n. if_there p (slice_get new n)) (count_up k)) (sym size) in
      let counted = each_counted p new in
      omega (arith, all, each, same, counted)

  -- The number of puts depends only on what plans order.
  pub puts_for_plans : (p : ℕ × Emission → Bool) → count_by (λ (x : LaneFrame × Environment). p ((x.0).place, (x.0).emission)) (frames_put w l log) ≡ count_by p (done_for_plans log)
  puts_for_plans p =
      let all = puts_counted (λ (f : LaneFrame). p (f.place, f.emission)) in
      let new = claimed_counted p w.durable.facts (length (w.frames l)) (length (w.durable.own l)) (claims_in log) in
      let claimed = news_claimed (λ x. p (x.0, New (x.1))) log in
      let both = both_kinds p (done_for_plans log) in
      omega (arith, all, new, claimed, both)
