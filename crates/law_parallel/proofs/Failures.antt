-- How often the outside fails in a block: managers' turns fail as they do alone, and a wire fails as often as its
-- lane's log says.
use Rattle.std.proofs.Common.{◌≡◌, ℕ, zero, suc, ◌+◌, ◌≤◌, Bool, true, false, ◌&&◌, List, [], ◌∷◌, ◌++◌, length, map, refl, ◌∙◌, ap, arith, append-nil, Option, Some, None}
use Rattle.std.specs.Prelude.{nat_lt, filter_map, count_by, slice_get, if◌then◌else◌}
use Rattle.std.specs.List.{list_all, flat_map, cons_option}
use Rattle.std.proofs.lemmas.Bool.Decides.{nat_tests}
use Rattle.std.proofs.lemmas.List.Folds.{list_all-append}
use Rattle.qkd_base.specs.Lane.{lane_eq}
use Rattle.qkd_base.specs.declared.lane.Lane.{Lane}
use Rattle.net_model.specs.declared.order.Order.{Order}
use Rattle.net_model.specs.Site.{count_up}
use Rattle.net_model.specs.World.{Network, World, Allocation, Transmission}
use Rattle.net_model.specs.Tick.{ordered}
use Rattle.net_model.specs.Action.{Environment, Action, Ask, Deliver, Allocate, Transmit, Complete, is_io_fault}
use Rattle.net_model.specs.BlockOrder.{is_turn_of, completions}
use Rattle.net_model.specs.Faults.{is_wire_fault, disk_faults, entropy_faults, device_faults, wire_faults, armings}
use Rattle.run_model.specs.Works.{Work, actions_in}
use Rattle.law_base.proofs.Base.{and_left, and_right, and_both}
use Rattle.law_locality.proofs.Counting.{one_if, count_more}
use Rattle.law_locality.proofs.Lists.{on}
use Rattle.law_parallel.specs.Remaining.{AreTurns}
use Rattle.law_parallel.proofs.Claims.{claim}
use Rattle.law_parallel.proofs.Counting.{count-append}
use Rattle.law_parallel.specs.Logs.{Deed, Claims, Puts, Repeats, claims_in, claims_put, is_wire_failure, HaveTheSame}
use Rattle.law_parallel.specs.Puts.{LaneFrame, new_frames, with_answer, put_by, frames_put}
use Rattle.law_parallel.specs.LaneWorks.{wire_faults_in}
use Rattle.law_parallel.proofs.AllPuts.{LanePut, put_lane, works_in}
use Rattle.law_parallel.proofs.Counted.{all_alike, claimed_length, again_frame}
use Rattle.law_parallel.proofs.Reported.{puts_at}

-- In claims, puts and notes, nothing but wires fails.

none_claimed : (p : Action → Bool) → ((t : Transmission) → p (Allocate t) ≡ false) → (os : List Order) → count_by p (map claim os) ≡ 0
none_claimed p h [] = refl
none_claimed p h (o ∷ os) =
    let rest = none_claimed p h os in
    let more = count_more p (claim o) (map claim os) in
    let none : one_if (p (claim o)) ≡ 0 = ap one_if (h (ordered o)) in
    omega (arith, rest, more, none)

none_put : (p : Action → Bool) → ((l : Lane) (j : ℕ) (answer : Environment) → p (Transmit l j answer) ≡ false) → (ps : List LanePut) → count_by p (actions_in (works_in ps)) ≡ 0
none_put p h [] = refl
none_put p h (q ∷ ps) =
    let rest = none_put p h ps in
    let more = count_more p (Transmit q.0 ((q.1).0).number (q.1).1) (actions_in (works_in ps)) in
    let none : one_if (p (Transmit q.0 ((q.1).0).number (q.1).1)) ≡ 0 = ap one_if (h q.0 ((q.1).0).number (q.1).1) in
    omega (arith, rest, more, none)

none_noted : (p : Action → Bool) → ((v : ℕ) → p (Complete v) ≡ false) → (vs : List ℕ) → count_by p (map (λ v. Complete v) vs) ≡ 0
none_noted p h [] = refl
none_noted p h (v ∷ vs) =
    let rest = none_noted p h vs in
    let more = count_more p (Complete v) (map (λ u. Complete u) vs) in
    let none : one_if (p (Complete v)) ≡ 0 = ap one_if (h v) in
    omega (arith, rest, more, none)

-- The run of a block: turns, claims, puts and notes.

module _ (net : Network) (all : List Action) (os : List Order) (ps : List LanePut) where
  abbrev pub in_block : List Action
  in_block = all ++ map claim os ++ actions_in (works_in ps) ++ completions net

  counted_in_block : (p : Action → Bool) → count_by p in_block ≡ count_by p all + count_by p (map claim os) + count_by p (actions_in (works_in ps)) + count_by p (completions net)
  counted_in_block p =
      let one = count-append p (all ++ map claim os ++ actions_in (works_in ps)) (completions net) in
      let two = count-append p (all ++ map claim os) (actions_in (works_in ps)) in
      let three = count-append p all (map claim os) in
      omega (arith, one, two, three)

  in_turns : (p : Action → Bool) → ((t : Transmission) → p (Allocate t) ≡ false) → ((l : Lane) (j : ℕ) (answer : Environment) → p (Transmit l j answer) ≡ false) →
      ((v : ℕ) → p (Complete v) ≡ false) → count_by p in_block ≡ count_by p all
  in_turns p a b d =
      let counted = counted_in_block p in
      let one = none_claimed p a os in
      let two = none_put p b ps in
      let three = none_noted p d (count_up net.site.nodes) in
      omega (arith, counted, one, two, three)

  pub disks_in_turns : (v : ℕ) → disk_faults net.site v in_block ≡ disk_faults net.site v all
  unfolding disk_faults
  disks_in_turns v = in_turns _ (λ t. refl) (λ l j answer. refl) (λ u. refl)

  pub entropies_in_turns : (v : ℕ) → entropy_faults v in_block ≡ entropy_faults v all
  unfolding entropy_faults
  entropies_in_turns v = in_turns _ (λ t. refl) (λ l j answer. refl) (λ u. refl)

  pub devices_in_turns : (link : ℕ) → device_faults link in_block ≡ device_faults link all
  unfolding device_faults
  devices_in_turns link = in_turns _ (λ t. refl) (λ l j answer. refl) (λ u. refl)

-- Lemmas on the faults with which disks are armed.

module _ {A : Type 0} (f : Action → Option A) where
  filter_map-append : (xs ys : List Action) → filter_map f (xs ++ ys) ≡ filter_map f xs ++ filter_map f ys
  filter_map-append [] ys = refl
  filter_map-append (x ∷ xs) ys = elim (f x) as (λ o. cons_option o (filter_map f (xs ++ ys)) ≡ cons_option o (filter_map f xs) ++ filter_map f ys) [
    | None ↦ filter_map-append xs ys
    | Some a ↦ ap (λ (zs : List A). a ∷ zs) (filter_map-append xs ys)
  ]

  no_claim : ((t : Transmission) → f (Allocate t) ≡ None) → (os : List Order) → filter_map f (map claim os) ≡ []
  no_claim h [] = refl
  no_claim h (o ∷ os) = ap (λ (x : Option A). cons_option x (filter_map f (map claim os))) (h (ordered o)) ∙ no_claim h os

  no_put : ((l : Lane) (j : ℕ) (answer : Environment) → f (Transmit l j answer) ≡ None) → (ps : List LanePut) → filter_map f (actions_in (works_in ps)) ≡ []
  no_put h [] = refl
  no_put h (q ∷ ps) = ap (λ (x : Option A). cons_option x (filter_map f (actions_in (works_in ps)))) (h q.0 ((q.1).0).number (q.1).1) ∙ no_put h ps

  no_note : ((v : ℕ) → f (Complete v) ≡ None) → (vs : List ℕ) → filter_map f (map (λ v. Complete v) vs) ≡ []
  no_note h [] = refl
  no_note h (v ∷ vs) = ap (λ (x : Option A). cons_option x (filter_map f (map (λ u. Complete u) vs))) (h v) ∙ no_note h vs

  listed_in_turns : (net : Network) (all : List Action) (os : List Order) (ps : List LanePut) → ((t : Transmission) → f (Allocate t) ≡ None) →
      ((l : Lane) (j : ℕ) (answer : Environment) → f (Transmit l j answer) ≡ None) → ((v : ℕ) → f (Complete v) ≡ None) → filter_map f (in_block net all os ps) ≡ filter_map f all
  listed_in_turns net all os ps a b d =
      filter_map-append (all ++ map claim os ++ actions_in (works_in ps)) (completions net)
      ∙ ap (λ (xs : List A). filter_map f (all ++ map claim os ++ actions_in (works_in ps)) ++ xs) (no_note d (count_up net.site.nodes)) ∙ append-nil _
      ∙ filter_map-append (all ++ map claim os) (actions_in (works_in ps)) ∙ ap (λ (xs : List A). filter_map f (all ++ map claim os) ++ xs) (no_put b ps) ∙ append-nil _
      ∙ filter_map-append all (map claim os) ∙ ap (λ (xs : List A). filter_map f all ++ xs) (no_claim a os) ∙ append-nil _

pub armed_in_turns : (net : Network) (all : List Action) (os : List Order) (ps : List LanePut) (v : ℕ) → armings v (in_block net all os ps) ≡ armings v all
unfolding armings
armed_in_turns net all os ps v = listed_in_turns _ net all os ps (λ t. refl) (λ l j answer. refl) (λ u. refl)

-- Lemmas on wires.

abbrev pub fails : LaneFrame × Environment → Bool
fails p = is_io_fault p.1

module _ (net : Network) (l : Lane) where
  turn_none : (v : ℕ) (a : Action) → is_turn_of net.site v a ≡ true → is_wire_fault l a ≡ false
  turn_none v (Ask u event environment) turn = refl
  turn_none v (Deliver k number environment) turn = refl
  turn_none v _ turn = absurd (cc)

  turns_none : (works : List Work) → AreTurns net works → count_by (is_wire_fault l) (actions_in works) ≡ 0
  turns_none [] h = refl
  turns_none (x ∷ works) h =
      let rest = turns_none works h.1 in
      let more = count_more (is_wire_fault l) x.action (actions_in works) in
      let none : one_if (is_wire_fault l x.action) ≡ 0 = ap one_if (turn_none h.0.0 x.action h.0.2) in
      omega (arith, rest, more, none)

  puts_fail : (ps : List LanePut) → count_by (is_wire_fault l) (actions_in (works_in ps)) ≡ count_by fails (puts_at l ps)
  puts_fail [] = refl
  puts_fail (q ∷ ps) =
      let rest = puts_fail ps in
      let more = count_more (is_wire_fault l) (Transmit q.0 ((q.1).0).number (q.1).1) (actions_in (works_in ps)) in
      elim (lane_eq q.0 l) as (λ t. count_by (is_wire_fault l) (actions_in (works_in (q ∷ ps))) ≡ one_if (t && fails q.1) + count_by (is_wire_fault l) (actions_in (works_in ps)) →
      count_by (is_wire_fault l) (actions_in (works_in (q ∷ ps))) ≡ count_by fails (map (λ (p : LanePut). p.1) (if t then q ∷ on put_lane l ps else on put_lane l ps))) [
        | true ↦ λ m. let two = count_more fails q.1 (puts_at l ps) in omega (arith, rest, m, two)
        | false ↦ λ m. omega (arith, rest, m)
      ] more

-- Each put of a claim has a claim in the log.

one_answer : (answer : Environment) (new : List LaneFrame) (n : ℕ) → nat_lt n (length new) ≡ true → count_by fails (with_answer answer (slice_get new n)) ≡ one_if (is_io_fault answer)
one_answer answer [] n h = absurd (none_below n h)
  where
    none_below : (n : ℕ) → nat_lt n 0 ≡ true → ⊥
    none_below n h = grind (arith, nat_tests)
one_answer answer (f ∷ new) zero h = let one = count_more fails (f, answer) [] in omega (arith, one)
one_answer answer (f ∷ new) (suc n) h = one_answer answer new n (below n (length new) h)
  where
    below : (n m : ℕ) → nat_lt (suc n) (suc m) ≡ true → nat_lt n m ≡ true
    below n m h = grind (arith, nat_tests)

log_fails : (older : List Allocation) (new : List LaneFrame) (log : List Deed) → list_all (λ n. nat_lt n (length new)) (claims_put log) ≡ true →
    count_by fails (flat_map (put_by older new) log) ≡ count_by is_wire_failure log
log_fails older new [] h = refl
log_fails older new (Claims place o ∷ log) h =
    let rest = log_fails older new log h in
    let more = count_more is_wire_failure (Claims place o) log in
    omega (arith, rest, more)
log_fails older new (Puts claim' answer ∷ log) h =
    let rest = log_fails older new log (and_right (nat_lt claim' (length new)) (list_all (λ n. nat_lt n (length new)) (claims_put log)) h) in
    let one = one_answer answer new claim' (and_left (nat_lt claim' (length new)) (list_all (λ n. nat_lt n (length new)) (claims_put log)) h) in
    let both = count-append fails (with_answer answer (slice_get new claim')) (flat_map (put_by older new) log) in
    let more = count_more is_wire_failure (Puts claim' answer) log in
    omega (arith, rest, one, both, more)
log_fails older new (Repeats place r answer ∷ log) h =
    let rest = log_fails older new log h in
    let one = count_more fails (again_frame older (place, r), answer) (flat_map (put_by older new) log) in
    let more = count_more is_wire_failure (Repeats place r answer) log in
    omega (arith, rest, one, more)

all_below : (n m : ℕ) → n ≤ m → list_all (λ k. nat_lt k m) (count_up n) ≡ true
all_below zero m h = refl
all_below (suc n) m h =
    list_all-append (λ k. nat_lt k m) (count_up n) (n ∷ []) ∙ and_both (list_all (λ k. nat_lt k m) (count_up n)) (nat_lt n m && true) (all_below n m (omega (arith, h))) (and_both (nat_lt n m) true (below n m h) refl)
  where
    below : (n m : ℕ) → suc n ≤ m → nat_lt n m ≡ true
    below n m h = grind (arith, nat_tests)

pub failures : (w : World) (l : Lane) (log : List Deed) → HaveTheSame (claims_put log) (count_up (length (claims_in log))) → count_by fails (frames_put w l log) ≡ wire_faults_in log
failures w l log put =
    let new : List LaneFrame = new_frames w l log in
    let size : length new ≡ length (claims_in log) = claimed_length w.durable.facts (length (w.frames l)) (length (w.durable.own l)) (claims_in log) in
    log_fails (w.frames l) new log
    (all_alike (λ n. nat_lt n (length new)) (claims_put log) (count_up (length (claims_in log))) put
    (all_below (length (claims_in log)) (length new) (omega (arith, size))))

pub wires_in_logs : (net : Network) (works : List Work) (os : List Order) (ps : List LanePut) (l : Lane) → AreTurns net works →
    wire_faults l (in_block net (actions_in works) os ps) ≡ count_by fails (puts_at l ps)
unfolding wire_faults
wires_in_logs net works os ps l turns =
    let counted = counted_in_block net (actions_in works) os ps (is_wire_fault l) in
    let one = turns_none net l works turns in
    let two = none_claimed (is_wire_fault l) (λ t. refl) os in
    let three = puts_fail net l ps in
    let four = none_noted (is_wire_fault l) (λ v. refl) (count_up net.site.nodes) in
    omega (arith, counted, one, two, three, four)
