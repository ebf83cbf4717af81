-- If no order and no frame is left, telling all managers of their frames is a run.
use Rattle.std.proofs.Common.{◌≡◌, ℕ, zero, suc, ◌+◌, ◌≤◌, true, ◌&&◌, ◌||◌, not, List, [], ◌∷◌, refl, ◌∙◌, ap, arith}
use Rattle.std.specs.Prelude.{nat_lt, map}
use Rattle.std.specs.List.{list_all}
use Rattle.std.proofs.lemmas.Bool.Decides.{nat_tests}
use Rattle.std.proofs.lemmas.List.Folds.{list_all-append}
use Rattle.qkd_base.specs.declared.lane.Lane.{Lane}
use Rattle.net_model.specs.declared.event.Event.TheVariants.{Note}
use Rattle.net_model.specs.declared.placing.Placing.{Placing}
use Rattle.net_model.specs.OctetSequence.{has_octets}
use Rattle.net_model.specs.Site.{count_up, outgoing_lanes}
use Rattle.net_model.specs.Journal.{journal_limit, added_len, is_nil}
use Rattle.net_model.specs.World.{Network, World}
use Rattle.net_model.specs.Decision.{Effect}
use Rattle.net_model.specs.Decide.{decide, random_need}
use Rattle.net_model.specs.Action.{Environment, Complete, Ok, Outcome, is_no_memory, is_entropy_fault, is_io_fault}
use Rattle.net_model.specs.Handle.{is_numbered, commit, stopped, perform, handle}
use Rattle.net_model.specs.Step.{step, is_node, is_sent, is_enabled, IsStep, IsRun}
use Rattle.law_base.proofs.Base.{by_test, and_left, and_right, and_both}
use Rattle.law_base.proofs.Walks.{perform_walk}
use Rattle.law_locality.proofs.Runs.{one_more, nothing_runs}

module _ (net : Network) where
  -- Nothing is ordered and no frame waits for its wire.
  pub record IsDone (w : World) : Type 0 where
    pub orders : (l : Lane) → w.unclaimed l ≡ []
    pub puts : (l : Lane) → w.outgoing l ≡ []

  committed : (w : World) → IsDone w → (v octets : ℕ) (e : Effect) → e.orders ≡ [] → e.repeats ≡ [] → IsDone (commit net.site w v octets e)
  unfolding commit
  committed w d v octets e none less = record { orders = λ l. rw none (d.orders l); puts = λ l. rw less (d.puts l) }

  was_stopped : (w : World) → IsDone w → (v octets : ℕ) (e : Effect) → IsDone (stopped w v octets e)
  unfolding stopped
  was_stopped w d v octets e = record { orders = d.orders; puts = d.puts }

  performed : (w : World) → IsDone w → (v octets : ℕ) (environment : Environment) (e : Effect) → e.orders ≡ [] → e.repeats ≡ [] → IsDone (perform net w v octets environment e).0
  performed w d v octets environment e none less =
      perform_walk net w IsDone d v octets environment e (λ numbered fits. was_stopped w d v octets e) (λ numbered fits. committed w d v octets e none less)

  noted : (w : World) → IsDone w → (v : ℕ) (placings : List Placing) → IsDone (handle net w v (Note placings) Ok).0
  unfolding handle decide random_need
  noted w d v placings = by_test (λ (r : World × Outcome). IsDone r.0) (w.up v) _ _ (λ up. performed w d v 0 Ok _ refl refl) (λ down. d)

  completed : (w : World) → IsDone w → (v : ℕ) → IsDone (step net w (Complete v)).0
  unfolding step
  completed w d v = let x = noted w d v (w.placings v) in record { orders = x.orders; puts = x.puts }

  all_sent : (w : World) → IsDone w → (ls : List Lane) → list_all (λ l. is_nil (w.unclaimed l) && is_nil (w.outgoing l)) ls ≡ true
  all_sent w d [] = refl
  all_sent w d (l ∷ ls) =
      and_both (is_nil (w.unclaimed l) && is_nil (w.outgoing l)) _ (and_both (is_nil (w.unclaimed l)) (is_nil (w.outgoing l)) (ap is_nil (d.orders l)) (ap is_nil (d.puts l))) (all_sent w d ls)

  may_complete : (w : World) → IsDone w → (v : ℕ) → nat_lt v net.site.nodes ≡ true → IsStep net w (Complete v)
  unfolding is_enabled
  may_complete w d v here = and_both (is_node net v && is_sent net w v) true (and_both (is_node net v) (is_sent net w v) here (all_sent w d (outgoing_lanes net.site v))) refl

  each_runs : (vs : List ℕ) (w : World) → IsDone w → list_all (λ v. nat_lt v net.site.nodes) vs ≡ true → IsRun net w (map (λ v. Complete v) vs)
  each_runs [] w d here = nothing_runs net w
  each_runs (v ∷ vs) w d here =
      one_more net w (Complete v) (map (λ u. Complete u) vs) (may_complete w d v (and_left (nat_lt v net.site.nodes) (list_all (λ u. nat_lt u net.site.nodes) vs) here))
      (each_runs vs (step net w (Complete v)).0 (completed w d v) (and_right (nat_lt v net.site.nodes) (list_all (λ u. nat_lt u net.site.nodes) vs) here))

  all_below : (n m : ℕ) → n ≤ m → list_all (λ v. nat_lt v m) (count_up n) ≡ true
  all_below zero m h = refl
  all_below (suc n) m h =
      let last : nat_lt n m ≡ true = grind (arith, nat_tests) in
      list_all-append (λ v. nat_lt v m) (count_up n) (n ∷ []) ∙ rw (all_below n m (omega (arith, h)), last) refl

  pub completions_run : (w : World) → IsDone w → IsRun net w (map (λ v. Complete v) (count_up net.site.nodes))
  completions_run w d = each_runs (count_up net.site.nodes) w d (all_below net.site.nodes net.site.nodes (omega arith))
