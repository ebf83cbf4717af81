-- Histories of different managers, each made on its own, are one run when put in sequence.
use Rattle.std.proofs.Common.{◌≡◌, ◌≢◌, ℕ, ◌+◌, ◌≤◌, true, List, [], ◌∷◌, ◌++◌, append_assoc, refl, sym, ◌∙◌, ap, subst, arith}
use Rattle.std.specs.List.{list_all, flat_map}
use Rattle.net_model.specs.Premises.{IsNetwork}
use Rattle.std.specs.Prelude.{◌==◌, count_by}
use Rattle.qkd_base.specs.declared.lane.Lane.{Lane}
use Rattle.net_model.specs.World.{Network, World, Transmission, Outgoing}
use Rattle.net_model.specs.Invariant.{Conserved}
use Rattle.net_model.specs.Action.{Action, Ask, Deliver, is_shown, environment_of}
use Rattle.net_model.specs.Step.{step, is_enabled, IsStep, run, IsRun}
use Rattle.net_model.specs.BlockOrder.{is_turn_of, Parts, all_histories, completions, block_actions, put_on, AreChains, IsBlock, BlockIsRun}
use Rattle.law_base.proofs.Base.{and_left, and_right, and_both}
use Rattle.law_invariant.proofs.Steps.{step_keeps}
use Rattle.law_locality.proofs.Claims.{claims_run, all_claimed}
use Rattle.law_locality.proofs.Puts.{puts_run, all_put, orders_stay}
use Rattle.law_locality.proofs.Completions.{IsDone, completions_run}
use Rattle.law_locality.proofs.Runs.{run-append, first_step, later_steps, one_more, nothing_runs, run_none, run_one, runs-append}
use Rattle.law_locality.proofs.Views.{SameFor, same_for, same_for_then}
use Rattle.law_locality.proofs.Turns.{turn_same, turn_unseen}

module _ (net : Network) (network : IsNetwork net) where
  pub kept : (xs : List Action) (w : World) → Conserved net w → IsRun net w xs → Conserved net (run net w xs)
  kept [] w c h = subst (λ (v : World). Conserved net v) (sym (run_none net w)) c
  kept (x ∷ xs) w c h =
      subst (λ (v : World). Conserved net v) (sym (run_one net w x xs))
      (kept xs (step net w x).0 (step_keeps net w x network (first_step net w x xs h) c) (later_steps net w x xs h))

  -- Whether a turn of a block is enabled doesn't depend on the world.
  enabled_same : (v : ℕ) (a b : World) (x : Action) → is_turn_of net.site v x ≡ true → is_enabled net b x ≡ is_enabled net a x
  unfolding is_enabled
  enabled_same v a b (Ask u event environment) turn = refl
  enabled_same v a b (Deliver l number environment) turn = refl
  enabled_same v a b _ turn = absurd (cc)

  -- The history of a node goes the same way in every world in which the node sees the same.
  pub own_history : (v : ℕ) (xs : List Action) (a b : World) → Conserved net a → Conserved net b → SameFor net v a b → list_all (is_turn_of net.site v) xs ≡ true →
      IsRun net a xs → IsRun net b xs
  own_history v [] a b c d h turns r = nothing_runs net b
  own_history v (x ∷ xs) a b c d h turns r =
      let turn = and_left (is_turn_of net.site v x) (list_all (is_turn_of net.site v) xs) turns in
      let now : IsStep net a x = first_step net a x xs r in
      let may : is_enabled net a x ≡ true = and_left (is_enabled net a x) (is_shown (environment_of x) (step net a x).1) now in
      let shown = and_right (is_enabled net a x) (is_shown (environment_of x) (step net a x).1) now in
      let same = turn_same net network v a b c d h x turn may in
      let then' : IsStep net b x =
      and_both (is_enabled net b x) (is_shown (environment_of x) (step net b x).1) (enabled_same v a b x turn ∙ may) (ap (is_shown (environment_of x)) same.outcome ∙ shown) in
      one_more net b x xs then'
      (own_history v xs (step net a x).0 (step net b x).0 (step_keeps net a x network now c) (step_keeps net b x network then' d) same.world
      (and_right (is_turn_of net.site v x) (list_all (is_turn_of net.site v) xs) turns) (later_steps net a x xs r))

  -- No other node sees that history.
  pub other_history : (v u : ℕ) → v ≢ u → (xs : List Action) (w : World) → Conserved net w → list_all (is_turn_of net.site u) xs ≡ true → IsRun net w xs → SameFor net v w (run net w xs)
  other_history v u apart [] w c turns r = subst (λ (x : World). SameFor net v w x) (sym (run_none net w)) (same_for net v w)
  other_history v u apart (x ∷ xs) w c turns r =
      let turn = and_left (is_turn_of net.site u x) (list_all (is_turn_of net.site u) xs) turns in
      let now : IsStep net w x = first_step net w x xs r in
      let may : is_enabled net w x ≡ true = and_left (is_enabled net w x) (is_shown (environment_of x) (step net w x).1) now in
      subst (λ (y : World). SameFor net v w y) (sym (run_one net w x xs))
      (same_for_then net v w (step net w x).0 (run net (step net w x).0 xs) (turn_unseen net network v u apart w c x turn may)
      (other_history v u apart xs (step net w x).0 (step_keeps net w x network now c) (and_right (is_turn_of net.site u x) (list_all (is_turn_of net.site u) xs) turns)
      (later_steps net w x xs r)))

  pub histories_run : (w : World) → Conserved net w → (hs : List (List Action)) (v : ℕ) (b : World) → Conserved net b → ((k : ℕ) → v ≤ k → SameFor net k w b) → AreChains net w v hs →
      IsRun net b (flat_map (λ h. h) hs)
  histories_run w c [] v b d same chains = nothing_runs net b
  histories_run w c (h ∷ hs) v b d same chains =
      let now : IsRun net b h = own_history v h w b c d (same v (omega arith)) chains.0 chains.1 in
      runs-append net h (flat_map (λ x. x) hs) b now
      (histories_run w c hs (v + 1) (run net b h) (kept h b d now) (λ k more.
      same_for_then net k w b (run net b h) (same k (omega (arith, more))) (other_history k v (λ e. absurd (apart k v more e)) h b d chains.0 now)) chains.2)
    where
      apart : (k v : ℕ) → v + 1 ≤ k → k ≡ v → ⊥
      apart k v more e = omega (arith, more, e)

-- After the histories come the claims of bytes, then the puts, then the completions.
rest_runs : (net : Network) (w : World) (p : Parts) → IsBlock net w p → IsRun net (run net w (all_histories p)) (p.claims ++ p.puts ++ completions net)
rest_runs net w p block =
    let after : World = run net w (all_histories p) in
    let claimed : World = run net after p.claims in
    let same : run net w (all_histories p ++ p.claims) ≡ claimed = run-append net (all_histories p) p.claims w in
    let put : (l : Lane) (j : ℕ) → count_by (λ i. i == j) (put_on l p.puts) ≡ count_by (λ (o : Outgoing). o.frame == j) (claimed.outgoing l) =
    λ l j. block.put l j ∙ ap (λ (x : World). count_by (λ (o : Outgoing). o.frame == j) (x.outgoing l)) same in
    let done : IsDone net (run net claimed p.puts) = record {
      orders = λ l. ap (λ (f : Lane → List Transmission). f l) (orders_stay net p.puts claimed block.puts) ∙ all_claimed net p.claims after block.claims block.claimed l;
      puts = all_put net p.puts claimed block.puts put;
    } in
    let both : run net after (p.claims ++ p.puts) ≡ run net claimed p.puts = run-append net p.claims p.puts after in
    runs-append net (p.claims ++ p.puts) (completions net) after
    (runs-append net p.claims p.puts after (claims_run net p.claims after block.claims block.claimed) (puts_run net p.puts claimed block.puts put))
    (subst (λ (x : World). IsRun net x (completions net)) (sym both) (completions_run net (run net claimed p.puts) done))

pub block_is_run : (net : Network) (w : World) (p : Parts) → IsNetwork net → Conserved net w → BlockIsRun net w p
unfolding block_actions
block_is_run net w p network c block =
    let all : List Action = all_histories p in
    subst (λ (xs : List Action). IsRun net w xs)
    (sym (append_assoc all (p.claims ++ p.puts) (completions net)) ∙ ap (λ (xs : List Action). xs ++ completions net) (sym (append_assoc all p.claims p.puts)))
    (runs-append net all (p.claims ++ p.puts ++ completions net) w (histories_run net network w c p.histories 0 w c (λ k more. same_for net k w) block.chains) (rest_runs net w p block))
