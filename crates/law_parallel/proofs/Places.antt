-- Each line of a block has at most one turn, at one node.
use Rattle.std.proofs.Common.{◌≡◌, ℕ, ◌+◌, ◌<◌, ◌≤◌, ◌%◌, Bool, true, false, ◌&&◌, List, [], ◌∷◌, ◌++◌, map, refl, sym, ◌∙◌, ap, arith, Option, Some, None}
use Rattle.std.specs.Prelude.{◌==◌, count_by, if◌then◌else◌}
use Rattle.std.proofs.Math.Bool.{and-false}
use Rattle.std.proofs.Math.Nat.{mod-lt}
use Rattle.net_model.specs.Site.{Site, receiver, count_up}
use Rattle.net_model.specs.World.{Network, World}
use Rattle.net_model.specs.Action.{Action, Ask, Deliver}
use Rattle.net_model.specs.BlockOrder.{is_block_event, is_turn_of}
use Rattle.net_model.specs.Step.{step}
use Rattle.run_model.specs.Works.{Work, Done, flat, plain_work, done_from}
use Rattle.run_ops.specs.declared.job.Job.{Job}
use Rattle.run_ops.specs.Jobs.{asked_for, turn_for, asked_by, asked_in_order}
use Rattle.law_base.proofs.Base.{and_left, eq_from, not_false, when_true}
use Rattle.law_locality.proofs.Counting.{one_if, count_more}
use Rattle.law_parallel.proofs.Asked.{IsAsked, AreAsked, first_asked, later_asked}
use Rattle.law_parallel.proofs.Counting.{count-append, count-map, one_false, at_most_one}
use Rattle.law_parallel.proofs.Merges.{same_count}
use Rattle.law_parallel.proofs.Merging.{in_order_is_a_merge}

abbrev pub is_of : ℕ → Work → Bool
is_of q x = x.place == q

module _ (s : Site) where
  -- An action is a turn of at most one node.
  one_node : (v u : ℕ) (a : Action) → is_turn_of s v a ≡ true → is_turn_of s u a ≡ true → v ≡ u
  one_node v u (Ask k event environment) h g =
      sym (eq_from k v (and_left (k == v) (is_block_event event) h)) ∙ eq_from k u (and_left (k == u) (is_block_event event) g)
  one_node v u (Deliver l number environment) h g = sym (eq_from (receiver s l) v h) ∙ eq_from (receiver s l) u g
  one_node v u _ h g = cc

  abbrev is_turn : ℕ → Option Action → Bool
  is_turn v None = false
  is_turn v (Some a) = is_turn_of s v a

  one_turn : (v u : ℕ) (o : Option Action) → is_turn v o ≡ true → is_turn u o ≡ true → v ≡ u
  one_turn v u None h g = cc
  one_turn v u (Some a) h g = one_node v u a h g

  -- The job at place q asks a turn of node v.
  abbrev turn_at : ℕ → (place q : ℕ) → List Job → Bool
  turn_at v place q [] = false
  turn_at v place q (job ∷ rest) = if place == q then is_turn v (asked_for job) else turn_at v (place + 1) q rest

  at_one_node : (v u place q : ℕ) (jobs : List Job) → turn_at v place q jobs ≡ true → turn_at u place q jobs ≡ true → v ≡ u
  at_one_node v u place q [] h g = cc
  at_one_node v u place q (job ∷ rest) h g =
      elim (place == q) as (λ t. (if t then is_turn v (asked_for job) else turn_at v (place + 1) q rest) ≡ true →
      (if t then is_turn u (asked_for job) else turn_at u (place + 1) q rest) ≡ true → v ≡ u) [
        | true ↦ λ a b. one_turn v u (asked_for job) a b
        | false ↦ λ a b. at_one_node v u (place + 1) q rest a b
      ] h g

  count_turn : (v place q : ℕ) (o : Option Action) → count_by (is_of q) (turn_for s v place o) ≡ one_if ((place == q) && is_turn v o)
  count_turn v place q None = sym (one_false ((place == q) && false) (and-false (place == q)))
  count_turn v place q (Some a) =
      elim (is_turn_of s v a) as (λ t. count_by (is_of q) (if t then record { place = place; action = a } ∷ [] else []) ≡ one_if ((place == q) && t)) [
        | true ↦ count_more (is_of q) (record { place = place; action = a }) [] ∙ one_more (place == q)
        | false ↦ sym (one_false ((place == q) && false) (and-false (place == q)))
      ]
    where
      one_more : (b : Bool) → one_if b + 0 ≡ one_if (b && true)
      one_more true = refl
      one_more false = refl

  alone : (place : ℕ) → (place % 1 == 0) ≡ true
  alone place = let small : place % 1 < 1 = mod-lt place (omega arith) in let is : place % 1 ≡ 0 = omega (arith, small) in ap (λ n. n == 0) is

  abbrev asked : ℕ → ℕ → List Job → List Work
  asked v place jobs = asked_by s 1 0 v place jobs

  asked_first : (v place : ℕ) (job : Job) (rest : List Job) → asked v place (job ∷ rest) ≡ turn_for s v place (asked_for job) ++ asked v (place + 1) rest
  unfolding asked_by
  asked_first v place job rest =
      ap (λ (xs : List Work). xs ++ asked_by s 1 0 v (place + 1) rest) (when_true (place % 1 == 0) (turn_for s v place (asked_for job)) [] (alone place))

  asked_none : (v place q : ℕ) → count_by (is_of q) (asked v place []) ≡ 0
  unfolding asked_by
  asked_none v place q = refl

  count_first : (v place q : ℕ) (job : Job) (rest : List Job) →
      count_by (is_of q) (asked v place (job ∷ rest)) ≡ one_if ((place == q) && is_turn v (asked_for job)) + count_by (is_of q) (asked v (place + 1) rest)
  count_first v place q job rest =
      let first = ap (count_by (is_of q)) (asked_first v place job rest) in
      let both = count-append (is_of q) (turn_for s v place (asked_for job)) (asked v (place + 1) rest) in
      let one = count_turn v place q (asked_for job) in
      omega (arith, first, both, one)

  -- Jobs after a place ask nothing for that place.
  past : (v place q : ℕ) → q < place → (jobs : List Job) → count_by (is_of q) (asked v place jobs) ≡ 0
  past v place q h [] = asked_none v place q
  past v place q h (job ∷ rest) =
      let first = count_first v place q job rest in
      let away : (place == q) ≡ false = not_false (place == q) (λ e. let is = eq_from place q e in absurd (omega (arith, h, is))) in
      let none = one_false ((place == q) && is_turn v (asked_for job)) (ap (λ (b : Bool). b && is_turn v (asked_for job)) away) in
      let later = past v (place + 1) q (omega (arith, h)) rest in
      omega (arith, first, none, later)

  count_asked : (v place q : ℕ) (jobs : List Job) → count_by (is_of q) (asked v place jobs) ≡ one_if (turn_at v place q jobs)
  count_asked v place q [] = asked_none v place q
  count_asked v place q (job ∷ rest) =
      let first = count_first v place q job rest in
      elim (place == q) as (λ t. (place == q) ≡ t → count_by (is_of q) (asked v place (job ∷ rest)) ≡ one_if (if t then is_turn v (asked_for job) else turn_at v (place + 1) q rest)) [
        | true ↦ λ e.
            let is = eq_from place q e in
            let later = past v (place + 1) q (omega (arith, is)) rest in
            let here : one_if ((place == q) && is_turn v (asked_for job)) ≡ one_if (is_turn v (asked_for job)) = ap (λ (b : Bool). one_if (b && is_turn v (asked_for job))) e in
            omega (arith, first, later, here)
        | false ↦ λ e.
            let later = count_asked v (place + 1) q rest in
            let none = one_false ((place == q) && is_turn v (asked_for job)) (ap (λ (b : Bool). b && is_turn v (asked_for job)) e) in
            omega (arith, first, later, none)
      ] refl

module _ (net : Network) (workers : ℕ) (some : 1 ≤ workers) (jobs : List Job) (q : ℕ) where
  abbrev has_turn : ℕ → Bool
  has_turn v = turn_at net.site v 0 q jobs

  -- For the line at place q, a manager's history has one turn if the line asks a turn of its node, and else none.
  count_history : (v : ℕ) (h : List Work) → IsAsked net workers jobs v h → count_by (is_of q) h ≡ one_if (has_turn v)
  count_history v h asked =
      sym (count-map (is_of q) plain_work h)
      ∙ same_count (is_of q) (map (λ k. asked_by net.site workers k v 0 jobs) (count_up workers)) (map plain_work h) (asked_in_order net.site v jobs) asked
      (in_order_is_a_merge net.site workers v jobs some) ∙ count_asked net.site v 0 q jobs

  none_elsewhere : (hs : List (List Work)) (v u : ℕ) → u < v → has_turn u ≡ true → AreAsked net workers jobs v hs → count_by (is_of q) (flat hs) ≡ 0
  none_elsewhere [] v u less h of = refl
  none_elsewhere (x ∷ hs) v u less h of =
      let both = count-append (is_of q) x (flat hs) in
      let here = count_history v x (first_asked net workers jobs v x hs of) in
      let none = one_false (has_turn v) (not_false (has_turn v) (λ e. let is = at_one_node net.site v u 0 q jobs e h in absurd (omega (arith, less, is)))) in
      let rest = none_elsewhere hs (v + 1) u (omega (arith, less)) h (later_asked net workers jobs v x hs of) in
      omega (arith, both, here, none, rest)

  place_once : (hs : List (List Work)) (v : ℕ) → AreAsked net workers jobs v hs → count_by (is_of q) (flat hs) ≤ 1
  place_once [] v of = omega arith
  place_once (x ∷ hs) v of =
      let both = count-append (is_of q) x (flat hs) in
      let here = count_history v x (first_asked net workers jobs v x hs of) in
      let later = later_asked net workers jobs v x hs of in
      elim (has_turn v) as (λ t. has_turn v ≡ t → count_by (is_of q) (flat (x ∷ hs)) ≤ 1) [
        | true ↦ λ e. let few = at_most_one (has_turn v) in let rest = none_elsewhere hs (v + 1) v (omega arith) e later in omega (arith, both, here, few, rest)
        | false ↦ λ e. let none = one_false (has_turn v) e in let rest = place_once hs (v + 1) later in omega (arith, both, here, none, rest)
      ] refl

  pub places_once : (hs : List (List Work)) → AreAsked net workers jobs 0 hs → count_by (is_of q) (flat hs) ≤ 1
  places_once hs asked = place_once hs 0 asked

pub done_places : (net : Network) (q : ℕ) (works : List Work) (w : World) → count_by (λ (d : Done). is_of q d.work) (done_from net w works) ≡ count_by (is_of q) works
unfolding done_from
done_places net q [] w = refl
done_places net q (x ∷ works) w =
    let rest = done_places net q works (step net w x.action).0 in
    let one = count_more (λ (d : Done). is_of q d.work) (record { work = x; before = w; outcome = (step net w x.action).1 }) (done_from net (step net w x.action).0 works) in
    let two = count_more (is_of q) x works in
    omega (arith, rest, one, two)
