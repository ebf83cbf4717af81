-- After a block the network is quiet again.
use Rattle.std.proofs.Common.{◌≡◌, ℕ, ◌<◌, true, false, ◌&&◌, List, [], ◌∷◌, ◌++◌, map, refl, sym, ◌∙◌, ap, subst, arith, ◌⊎◌, inl, inr}
use Rattle.std.specs.Prelude.{◌==◌, nat_lt, count_by, if◌then◌else◌}
use Rattle.std.specs.List.{list_any}
use Rattle.std.proofs.lemmas.Bool.{ltb-true}
use Rattle.std.proofs.lemmas.Bool.Decides.{nat_tests}
use Rattle.qkd_base.specs.Family.{number_set}
use Rattle.qkd_base.specs.Lane.{reverse_lane}
use Rattle.qkd_base.specs.declared.lane.Lane.{Lane}
use Rattle.net_model.specs.declared.placing.Placing.{Placing}
use Rattle.net_model.specs.Premises.{IsNetwork}
use Rattle.net_model.specs.Site.{sender, receiver, count_up}
use Rattle.net_model.specs.World.{Network, World, Transmission, Outgoing}
use Rattle.net_model.specs.Events.{is_lane, is_valid_event}
use Rattle.net_model.specs.Invariant.{Conserved}
use Rattle.net_model.specs.Action.{Action, Start, Crash, Arm, SetLink, TakeBlock, Ask, Allocate, Transmit, Complete, Deliver, Flip, Forge, is_shown, environment_of}
use Rattle.net_model.specs.Step.{step, is_node, is_link, is_asked, is_enabled, IsStep, run, IsRun}
use Rattle.net_model.specs.BlockOrder.{Parts, all_histories, completions, block_actions, IsBlock}
use Rattle.law_base.proofs.Base.{by_number, and_left, or_cases, eq_from, number_set_same}
use Rattle.law_invariant.proofs.Outgoing.{sender_back}
use Rattle.law_invariant.proofs.Steps.{step_keeps}
use Rattle.law_locality.specs.Quiet.{IsQuiet}
use Rattle.law_locality.specs.Touched.{touches_node}
use Rattle.law_locality.proofs.Chains.{kept, block_is_run}
use Rattle.law_locality.proofs.Claims.{all_claimed}
use Rattle.law_locality.proofs.Completions.{IsDone}
use Rattle.law_locality.proofs.LaneSteps.{step_lane}
use Rattle.law_locality.proofs.ManagerSteps.{step_unseen}
use Rattle.law_locality.proofs.Puts.{all_put, orders_stay}
use Rattle.law_locality.proofs.Runs.{first_step, later_steps, one_more, nothing_runs, run_none, run_one, run-append}
use Rattle.law_quiet.proofs.LeavingLanes.{counted}
use Rattle.law_quiet.proofs.Quieting.{end_below}

-- A run of a list that was put together is a run of the first part, and then of the second.

pub runs_first : (net : Network) (xs ys : List Action) (w : World) → IsRun net w (xs ++ ys) → IsRun net w xs
runs_first net [] ys w h = nothing_runs net w
runs_first net (x ∷ xs) ys w h = one_more net w x xs (first_step net w x (xs ++ ys) h) (runs_first net xs ys (step net w x).0 (later_steps net w x (xs ++ ys) h))

pub runs_second : (net : Network) (xs ys : List Action) (w : World) → IsRun net w (xs ++ ys) → IsRun net (run net w xs) ys
runs_second net [] ys w h = subst (λ (x : World). IsRun net x ys) (sym (run_none net w)) h
runs_second net (x ∷ xs) ys w h =
    subst (λ (y : World). IsRun net y ys) (sym (run_one net w x xs)) (runs_second net xs ys (step net w x).0 (later_steps net w x (xs ++ ys) h))

module _ (net : Network) (network : IsNetwork net) where
  -- No action that may happen touches a number that no node has.

  other_than : (v u n : ℕ) → v < n → nat_lt u n ≡ false → (v == u) ≡ false
  other_than v u n h k = grind (arith, nat_tests)

  node_apart : (v u : ℕ) → is_node net v ≡ true → nat_lt u net.site.nodes ≡ false → (v == u) ≡ false
  node_apart v u node far = other_than v u net.site.nodes (ltb-true v net.site.nodes node) far

  sender_apart : (l : Lane) (u : ℕ) → is_lane net.site l ≡ true → nat_lt u net.site.nodes ≡ false → (sender net.site l == u) ≡ false
  sender_apart l u lane far =
      let ends = network.site.ends l.link (ltb-true l.link net.site.links lane) in
      other_than (sender net.site l) u net.site.nodes (end_below l.way (net.site.low l.link) (net.site.high l.link) net.site.nodes ends.order ends.within) far

  receiver_apart : (l : Lane) (u : ℕ) → is_lane net.site l ≡ true → nat_lt u net.site.nodes ≡ false → (receiver net.site l == u) ≡ false
  receiver_apart l u lane far = ap (λ (v : ℕ). v == u) (sym (sender_back net.site l)) ∙ sender_apart (reverse_lane l) u lane far

  far_untouched : (w : World) (u : ℕ) → nat_lt u net.site.nodes ≡ false → (a : Action) → is_enabled net w a ≡ true → touches_node net.site a u ≡ false
  unfolding is_enabled
  far_untouched w u far (Start v recovery) may = node_apart v u (and_left (is_node net v) _ may) far
  far_untouched w u far (Crash v) may = node_apart v u (and_left (is_node net v) _ may) far
  far_untouched w u far (Arm v fault) may = refl
  far_untouched w u far (SetLink link up) may = refl
  far_untouched w u far (TakeBlock v link environment) may = node_apart v u (and_left (is_node net v) (is_link net link) (and_left _ _ may)) far
  far_untouched w u far (Ask v event environment) may = node_apart v u (and_left (is_node net v) (is_asked event) (and_left (is_node net v && is_asked event) (is_valid_event net.site v event) may)) far
  far_untouched w u far (Allocate t) may = refl
  far_untouched w u far (Transmit l j environment) may = sender_apart l u (and_left (is_lane net.site l) _ may) far
  far_untouched w u far (Complete v) may = node_apart v u (and_left (is_node net v) _ may) far
  far_untouched w u far (Deliver l number environment) may = receiver_apart l u may far
  far_untouched w u far (Flip l number bit environment) may = receiver_apart l u may far
  far_untouched w u far (Forge l octets environment) may = receiver_apart l u (and_left (is_lane net.site l) _ (and_left _ _ (and_left _ _ may))) far

  none_far : (u : ℕ) → nat_lt u net.site.nodes ≡ false → (xs : List Action) (w : World) → Conserved net w → IsRun net w xs → w.placings u ≡ [] → (run net w xs).placings u ≡ []
  none_far u far [] w c h none = ap (λ (x : World). x.placings u) (run_none net w) ∙ none
  none_far u far (a ∷ xs) w c h none =
      let now : IsStep net w a = first_step net w a xs h in
      let may : is_enabled net w a ≡ true = and_left (is_enabled net w a) (is_shown (environment_of a) (step net w a).1) now in
      ap (λ (x : World). x.placings u) (run_one net w a xs) ∙
      none_far u far xs (step net w a).0 (step_keeps net w a network now c) (later_steps net w a xs h) ((step_unseen net w network c u a may (far_untouched w u far a may)).placings ∙ none)

  -- Once all is sent, each manager is told of its frames, and the network is quiet.

  abbrev notes : List ℕ → List Action
  notes vs = map (λ v. Complete v) vs

  noted_one : (w : World) (v : ℕ) → (step net w (Complete v)).0.placings ≡ number_set w.placings v []
  unfolding step
  noted_one w v = refl

  one_done : (w : World) → Conserved net w → (v : ℕ) → IsStep net w (Complete v) → IsDone net w → IsDone net (step net w (Complete v)).0
  one_done w c v now d =
      let may : is_enabled net w (Complete v) ≡ true = and_left (is_enabled net w (Complete v)) (is_shown (environment_of (Complete v)) (step net w (Complete v)).1) now in
      record {
        orders = λ l. (step_lane net w l network c (Complete v) may refl).unclaimed ∙ d.orders l;
        puts = λ l. (step_lane net w l network c (Complete v) may refl).outgoing ∙ d.puts l;
      }

  told_or_none : (w : World) (v : ℕ) (vs : List ℕ) (u : ℕ) → (list_any (λ x. x == u) (v ∷ vs) ≡ true) ⊎ (w.placings u ≡ []) →
      (list_any (λ x. x == u) vs ≡ true) ⊎ ((step net w (Complete v)).0.placings u ≡ [])
  told_or_none w v vs u h = elim h [
    | inl listed ↦ elim (or_cases (v == u) (list_any (λ x. x == u) vs) listed) [
      | inl is ↦ inr (ap (λ (f : ℕ → List Placing). f u) (noted_one w v) ∙ subst (λ (k : ℕ). number_set w.placings v [] k ≡ []) (eq_from v u is) (number_set_same w.placings v []))
      | inr later ↦ inl later
    ]
    | inr none ↦ inr (ap (λ (f : ℕ → List Placing). f u) (noted_one w v) ∙ by_number (λ k b. w.placings k ≡ [] → (if b then [] else w.placings k) ≡ []) v (λ e. refl) (λ k ne e. e) u none)
  ]

  noted_all : (vs : List ℕ) (w : World) → Conserved net w → IsRun net w (notes vs) → IsDone net w → ((u : ℕ) → (list_any (λ x. x == u) vs ≡ true) ⊎ (w.placings u ≡ [])) →
      IsQuiet (run net w (notes vs))
  noted_all [] w c h d told = subst IsQuiet (sym (run_none net w)) (record {
    claimed = d.orders;
    put = d.puts;
    noted = λ u. elim (told u) [ inl none ↦ cc | inr e ↦ e ];
  })
  noted_all (v ∷ vs) w c h d told =
      let now = first_step net w (Complete v) (notes vs) h in
      subst IsQuiet (sym (run_one net w (Complete v) (notes vs)))
      (noted_all vs (step net w (Complete v)).0 (step_keeps net w (Complete v) network now c) (later_steps net w (Complete v) (notes vs) h) (one_done w c v now d)
      (λ u. told_or_none w v vs u (told u)))

  told_nodes : (w : World) → ((u : ℕ) → nat_lt u net.site.nodes ≡ false → w.placings u ≡ []) → (u : ℕ) →
      (list_any (λ x. x == u) (count_up net.site.nodes) ≡ true) ⊎ (w.placings u ≡ [])
  told_nodes w far u = elim (nat_lt u net.site.nodes) as (λ t. nat_lt u net.site.nodes ≡ t → (list_any (λ x. x == u) (count_up net.site.nodes) ≡ true) ⊎ (w.placings u ≡ [])) [
    | true ↦ λ e. inl (counted net.site.nodes u (ltb-true u net.site.nodes e))
    | false ↦ λ e. inr (far u e)
  ] refl

  module _ (w : World) (c : Conserved net w) (q : IsQuiet w) (p : Parts) (block : IsBlock net w p) where
    abbrev all : List Action
    all = all_histories p

    abbrev after : World
    after = run net w all

    abbrev claimed : World
    claimed = run net after p.claims

    abbrev sent : List Action
    sent = all ++ p.claims ++ p.puts

    whole : IsRun net w (sent ++ completions net)
    unfolding block_actions
    whole = block_is_run net w p network c block

    claimed_is : run net w (all ++ p.claims) ≡ claimed
    claimed_is = run-append net all p.claims w

    sent_is : run net w sent ≡ run net claimed p.puts
    sent_is = run-append net (all ++ p.claims) p.puts w ∙ ap (λ (x : World). run net x p.puts) claimed_is

    done : IsDone net (run net w sent)
    done = subst (IsDone net) (sym sent_is) (record {
      orders = λ l. ap (λ (f : Lane → List Transmission). f l) (orders_stay net p.puts claimed block.puts) ∙ all_claimed net p.claims after block.claims block.claimed l;
      puts = all_put net p.puts claimed block.puts (λ l j. block.put l j ∙ ap (λ (x : World). count_by (λ (o : Outgoing). o.frame == j) (x.outgoing l)) claimed_is);
    })

    pub block_rests : IsQuiet (run net w (block_actions net p))
    unfolding block_actions
    block_rests =
        let first = runs_first net sent (completions net) w whole in
        subst IsQuiet (sym (run-append net sent (completions net) w))
        (noted_all (count_up net.site.nodes) (run net w sent) (kept net network sent w c first) (runs_second net sent (completions net) w whole) done
        (told_nodes (run net w sent) (λ u far. none_far u far sent w c first (q.noted u))))
