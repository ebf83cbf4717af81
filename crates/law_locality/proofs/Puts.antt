-- Putting each frame that waits after a block's claims, once, is a run after which no frame waits.
use Rattle.std.proofs.Common.{◌≡◌, ℕ, ◌+◌, Bool, true, false, ◌&&◌, ◌||◌, List, [], ◌∷◌, refl, sym, ◌∙◌, ap, subst, arith, Option, Some, None}
use Rattle.std.specs.Prelude.{◌==◌, count_by, is_some, if◌then◌else◌}
use Rattle.std.specs.List.{list_all, list_any}
use Rattle.qkd_base.specs.Lane.{lane_eq}
use Rattle.qkd_base.specs.Family.{lane_set}
use Rattle.qkd_base.specs.declared.lane.Lane.{Lane}
use Rattle.net_model.specs.World.{Network, World, Outgoing}
use Rattle.net_model.specs.Events.{is_lane}
use Rattle.net_model.specs.Action.{Environment, Ok, OutOfMemory, IoFault, EntropyFault, DeviceFault, Action, Transmit, Outcome, is_no_memory, is_io_fault, is_shown}
use Rattle.net_model.specs.Frames.{outgoing_of, without_frame, transmit_one, transmit}
use Rattle.net_model.specs.Step.{step, is_enabled, IsStep, run, IsRun}
use Rattle.net_model.specs.BlockOrder.{is_wire_answer, is_put, put_on}
use Rattle.law_base.proofs.Base.{and_left, and_right, and_both, lane_eq_from, eq_from, eq_same, by_test, lane_same}
use Rattle.law_locality.proofs.Claims.{lanes_apart}
use Rattle.law_locality.proofs.Counting.{one_if, count_more, counted_is_there}
use Rattle.law_locality.proofs.Runs.{one_more, nothing_runs, run_none, run_one}

abbrev is_number : ℕ → Outgoing → Bool
is_number j o = o.frame == j

-- A frame that is looked up is found, and has the number that was asked for.
record Found (j : ℕ) (os : List Outgoing) : Type 0 where
  one : Outgoing
  is : outgoing_of j os ≡ Some one
  number : one.frame ≡ j

found : (j : ℕ) (os : List Outgoing) → list_any (is_number j) os ≡ true → Found j os
found j [] h = cc
found j (o ∷ os) h = elim (o.frame == j) as (λ t. (o.frame == j) ≡ t → (t || list_any (is_number j) os) ≡ true → Found j (o ∷ os)) [
  | true ↦ λ e k. record { one = o; is = rw e refl; number = eq_from o.frame j e }
  | false ↦ λ e k. let rest = found j os k in record { one = rest.one; is = rw e rest.is; number = rest.number }
] refl h

-- Lemmas on taking one frame out of a list.
count-without : (k j : ℕ) (os : List Outgoing) → list_any (is_number j) os ≡ true → count_by (is_number k) os ≡ one_if (j == k) + count_by (is_number k) (without_frame j os)
count-without k j [] h = cc
count-without k j (o ∷ os) h =
    elim (o.frame == j) as (λ t. (o.frame == j) ≡ t → (t || list_any (is_number j) os) ≡ true →
    count_by (is_number k) (o ∷ os) ≡ one_if (j == k) + count_by (is_number k) (if t then os else o ∷ without_frame j os)) [
      | true ↦ λ e x. count_more (is_number k) o os ∙ ap (λ (n : ℕ). one_if (n == k) + count_by (is_number k) os) (eq_from o.frame j e)
      | false ↦ λ e x.
          let rest = count-without k j os x in
          let a = count_more (is_number k) o os in
          let b = count_more (is_number k) o (without_frame j os) in
          omega (arith, rest, a, b)
    ] refl h

none_left : (os : List Outgoing) → ((j : ℕ) → count_by (is_number j) os ≡ 0) → os ≡ []
none_left [] h = refl
none_left (o ∷ os) h =
    let more = count_more (is_number o.frame) o os in
    let one : one_if (o.frame == o.frame) ≡ 1 = ap one_if (eq_same o.frame) in
    absurd (omega (arith, h o.frame, more, one))

module _ (net : Network) where
  -- The puts take exactly the frames that wait in the world.
  abbrev AreAll : List Action → World → Type 0
  AreAll xs w = (l : Lane) (j : ℕ) → count_by (λ i. i == j) (put_on l xs) ≡ count_by (is_number j) (w.outgoing l)

  put_here : (l : Lane) (j : ℕ) (environment : Environment) (xs : List Action) → put_on l (Transmit l j environment ∷ xs) ≡ j ∷ put_on l xs
  put_here l j environment xs = ap (λ (b : Bool). if b then j ∷ put_on l xs else put_on l xs) (lane_same l)

  is_there : (l : Lane) (j : ℕ) (environment : Environment) (xs : List Action) (w : World) → AreAll (Transmit l j environment ∷ xs) w → list_any (is_number j) (w.outgoing l) ≡ true
  is_there l j environment xs w h =
      let all = h l j in
      let here = ap (count_by (λ i. i == j)) (put_here l j environment xs) in
      let more = count_more (λ i. i == j) j (put_on l xs) in
      let one : one_if (j == j) ≡ 1 = ap one_if (eq_same j) in
      counted_is_there (is_number j) (w.outgoing l) (omega (arith, all, here, more, one))

  -- What the answer of a wire shows.
  answers : (w : World) (l : Lane) (environment : Environment) (o : Outgoing) → is_wire_answer environment ≡ true → is_shown environment (transmit_one net w l environment (Some o)).1 ≡ true
  answers w l Ok o h = refl
  answers w l OutOfMemory o h = refl
  answers w l IoFault o h = refl
  answers w l EntropyFault o h = cc
  answers w l DeviceFault o h = cc

  shown : (w : World) (l : Lane) (j : ℕ) (environment : Environment) → is_wire_answer environment ≡ true → Found j (w.outgoing l) →
      is_shown environment (transmit net w l j environment).1 ≡ true
  unfolding transmit
  shown w l j environment h f = ap (λ (o : Option Outgoing). is_shown environment (transmit_one net w l environment o).1) f.is ∙ answers w l environment f.one h

  put_enabled : (l : Lane) (j : ℕ) (environment : Environment) (w : World) → is_lane net.site l ≡ true → is_wire_answer environment ≡ true → Found j (w.outgoing l) →
      IsStep net w (Transmit l j environment)
  unfolding is_enabled step
  put_enabled l j environment w lane h f =
      and_both (is_lane net.site l && is_some (outgoing_of j (w.outgoing l))) (is_shown environment (transmit net w l j environment).1)
      (and_both (is_lane net.site l) (is_some (outgoing_of j (w.outgoing l))) lane (ap is_some f.is)) (shown w l j environment h f)

  -- Whether the wire takes or refuses the frame, it waits no longer, and no order changes.

  left_one : (w : World) (l : Lane) (environment : Environment) (o : Outgoing) → (transmit_one net w l environment (Some o)).0.outgoing ≡ lane_set w.outgoing l (without_frame o.frame (w.outgoing l))
  left_one w l environment o =
      by_test (λ (r : World × Outcome). r.0.outgoing ≡ lane_set w.outgoing l (without_frame o.frame (w.outgoing l))) (is_no_memory environment || is_io_fault environment) _ _ (λ e. refl) (λ e. refl)

  orders_one : (w : World) (l : Lane) (environment : Environment) (o : Option Outgoing) → (transmit_one net w l environment o).0.unclaimed ≡ w.unclaimed
  orders_one w l environment None = refl
  orders_one w l environment (Some o) =
      by_test (λ (r : World × Outcome). r.0.unclaimed ≡ w.unclaimed) (is_no_memory environment || is_io_fault environment) _ _ (λ e. refl) (λ e. refl)

  left_after : (w : World) (l : Lane) (j : ℕ) (environment : Environment) → Found j (w.outgoing l) →
      (step net w (Transmit l j environment)).0.outgoing ≡ lane_set w.outgoing l (without_frame j (w.outgoing l))
  unfolding step transmit
  left_after w l j environment f =
      ap (λ (o : Option Outgoing). (transmit_one net w l environment o).0.outgoing) f.is ∙ left_one w l environment f.one ∙
      ap (λ (n : ℕ). lane_set w.outgoing l (without_frame n (w.outgoing l))) f.number

  orders_after : (w : World) (l : Lane) (j : ℕ) (environment : Environment) → (step net w (Transmit l j environment)).0.unclaimed ≡ w.unclaimed
  unfolding step transmit
  orders_after w l j environment = orders_one w l environment (outgoing_of j (w.outgoing l))

  all_after : (k : Lane) (j : ℕ) (environment : Environment) (xs : List Action) (w : World) → AreAll (Transmit k j environment ∷ xs) w → AreAll xs (step net w (Transmit k j environment)).0
  all_after k j environment xs w h l i =
      let there = is_there k j environment xs w h in
      let left = ap (λ (f : Lane → List Outgoing). count_by (is_number i) (f l)) (left_after w k j environment (found j (w.outgoing k) there)) in
      elim (lane_eq l k) as (λ b. lane_eq l k ≡ b → count_by (is_number i) (if b then without_frame j (w.outgoing k) else w.outgoing l) ≡
      count_by (is_number i) ((step net w (Transmit k j environment)).0.outgoing l) →
      count_by (λ n. n == i) (put_on l xs) ≡ count_by (is_number i) ((step net w (Transmit k j environment)).0.outgoing l)) [
        | true ↦ λ e x.
            let is : l ≡ k = lane_eq_from l k e in
            let here : put_on l (Transmit k j environment ∷ xs) ≡ j ∷ put_on l xs =
            subst (λ (m : Lane). put_on m (Transmit k j environment ∷ xs) ≡ j ∷ put_on m xs) (sym is) (put_here k j environment xs) in
            let all = h l i in
            let same = ap (count_by (λ n. n == i)) here in
            let more = count_more (λ n. n == i) j (put_on l xs) in
            let taken = count-without i j (w.outgoing k) there in
            let lanes : count_by (is_number i) (w.outgoing l) ≡ count_by (is_number i) (w.outgoing k) = ap (λ (m : Lane). count_by (is_number i) (w.outgoing m)) is in
            omega (arith, all, same, more, taken, lanes, x)
        | false ↦ λ e x.
            let away : lane_eq k l ≡ false = lanes_apart l k e in
            let here : put_on l (Transmit k j environment ∷ xs) ≡ put_on l xs = ap (λ (b : Bool). if b then j ∷ put_on l xs else put_on l xs) away in
            sym (ap (count_by (λ n. n == i)) here) ∙ h l i ∙ x
      ] refl (sym left)

  pub puts_run : (xs : List Action) (w : World) → list_all (is_put net.site) xs ≡ true → AreAll xs w → IsRun net w xs
  puts_run [] w each h = nothing_runs net w
  puts_run (Transmit l j environment ∷ xs) w each h =
      let one = and_left (is_lane net.site l && is_wire_answer environment) (list_all (is_put net.site) xs) each in
      one_more net w (Transmit l j environment) xs
      (put_enabled l j environment w (and_left (is_lane net.site l) (is_wire_answer environment) one) (and_right (is_lane net.site l) (is_wire_answer environment) one)
      (found j (w.outgoing l) (is_there l j environment xs w h)))
      (puts_run xs (step net w (Transmit l j environment)).0 (and_right (is_lane net.site l && is_wire_answer environment) (list_all (is_put net.site) xs) each)
      (all_after l j environment xs w h))
  puts_run (_ ∷ xs) w each h = absurd (cc)

  pub all_put : (xs : List Action) (w : World) → list_all (is_put net.site) xs ≡ true → AreAll xs w → (l : Lane) → (run net w xs).outgoing l ≡ []
  all_put [] w each h l = ap (λ (x : World). x.outgoing l) (run_none net w) ∙ none_left (w.outgoing l) (λ j. sym (h l j))
  all_put (Transmit k j environment ∷ xs) w each h l =
      ap (λ (x : World). x.outgoing l) (run_one net w (Transmit k j environment) xs) ∙
      all_put xs (step net w (Transmit k j environment)).0 (and_right (is_lane net.site k && is_wire_answer environment) (list_all (is_put net.site) xs) each)
      (all_after k j environment xs w h) l
  all_put (_ ∷ xs) w each h l = absurd (cc)

  pub orders_stay : (xs : List Action) (w : World) → list_all (is_put net.site) xs ≡ true → (run net w xs).unclaimed ≡ w.unclaimed
  orders_stay [] w each = ap (λ (x : World). x.unclaimed) (run_none net w)
  orders_stay (Transmit k j environment ∷ xs) w each =
      ap (λ (x : World). x.unclaimed) (run_one net w (Transmit k j environment) xs) ∙
      orders_stay xs (step net w (Transmit k j environment)).0 (and_right (is_lane net.site k && is_wire_answer environment) (list_all (is_put net.site) xs) each) ∙
      orders_after w k j environment
  orders_stay (_ ∷ xs) w each = absurd (cc)
