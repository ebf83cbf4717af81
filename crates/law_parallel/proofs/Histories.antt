-- Each manager's history, made after those of other nodes, is also a run from the block's start, with the same
-- outcomes.
use Rattle.std.proofs.Common.{◌≡◌, ℕ, ◌+◌, ◌≤◌, true, List, [], ◌∷◌, ◌++◌, map, refl, sym, ◌∙◌, ap, subst, arith}
use Rattle.std.specs.List.{list_all}
use Rattle.std.proofs.lemmas.List.{map-append}
use Rattle.net_model.specs.World.{Network, World}
use Rattle.net_model.specs.Premises.{IsNetwork}
use Rattle.net_model.specs.Invariant.{Conserved}
use Rattle.net_model.specs.Action.{Action, Ask, Deliver, Outcome, is_shown, environment_of}
use Rattle.net_model.specs.Step.{step, is_enabled, IsStep, run, IsRun}
use Rattle.net_model.specs.BlockOrder.{is_turn_of, AreChains}
use Rattle.run_model.specs.Works.{Work, Done, actions_in, flat, done_from}
use Rattle.run_ops.specs.Together.{turn_done}
use Rattle.law_base.proofs.Base.{and_left, and_right, and_both}
use Rattle.law_invariant.proofs.Steps.{step_keeps}
use Rattle.law_locality.proofs.Chains.{kept, other_history}
use Rattle.law_locality.proofs.Runs.{first_step, later_steps, one_more, nothing_runs}
use Rattle.law_locality.proofs.Turns.{turn_same}
use Rattle.law_locality.proofs.Views.{SameFor, same_for_then}
use Rattle.law_parallel.proofs.Runs.{runs_first, runs_after, actions-append, done-append}

abbrev turned : List Done → List (ℕ × Outcome)
turned ds = map turn_done ds

module _ (net : Network) where
  abbrev AreTurnsOf : ℕ → List Work → Type 0
  AreTurnsOf v h = list_all (is_turn_of net.site v) (actions_in h) ≡ true

  -- Each history consists of turns of its own node.
  abbrev pub AreOfNodes : ℕ → List (List Work) → Type 0
  AreOfNodes v [] = Unit {0}
  AreOfNodes v (h ∷ hs) = AreTurnsOf v h × AreOfNodes (v + 1) hs

module _ (net : Network) (network : IsNetwork net) where
  -- Whether a turn of a block is enabled doesn't depend on the world.
  enabled_same : (v : ℕ) (a b : World) (x : Action) → is_turn_of net.site v x ≡ true → is_enabled net b x ≡ is_enabled net a x
  unfolding is_enabled
  enabled_same v a b (Ask u event environment) turn = refl
  enabled_same v a b (Deliver l number environment) turn = refl
  enabled_same v a b _ turn = absurd (cc)

  -- What a node does in world b is a run in world a too, with the same outcomes, if the node sees the same in both.
  record IsLike (a b : World) (h : List Work) : Type 0 where
    runs : IsRun net a (actions_in h)
    same : turned (done_from net a h) ≡ turned (done_from net b h)

  made_alone : (v : ℕ) (h : List Work) (a b : World) → Conserved net a → Conserved net b → SameFor net v a b → AreTurnsOf net v h → IsRun net b (actions_in h) → IsLike a b h
  unfolding done_from
  made_alone v [] a b c d s turns r = record { runs = nothing_runs net a; same = refl }
  made_alone v (x ∷ h) a b c d s turns r =
      let act : Action = x.action in
      let rest : List Action = actions_in h in
      let turn = and_left (is_turn_of net.site v act) (list_all (is_turn_of net.site v) rest) turns in
      let now : IsStep net b act = first_step net b act rest r in
      let may : is_enabled net a act ≡ true = enabled_same v b a act turn ∙ and_left (is_enabled net b act) (is_shown (environment_of act) (step net b act).1) now in
      let shown = and_right (is_enabled net b act) (is_shown (environment_of act) (step net b act).1) now in
      let both = turn_same net network v a b c d s act turn may in
      let then' : IsStep net a act =
      and_both (is_enabled net a act) (is_shown (environment_of act) (step net a act).1) may (ap (is_shown (environment_of act)) (sym both.outcome) ∙ shown) in
      let later = made_alone v h (step net a act).0 (step net b act).0 (step_keeps net a act network then' c) (step_keeps net b act network now d) both.world
      (and_right (is_turn_of net.site v act) (list_all (is_turn_of net.site v) rest) turns) (later_steps net b act rest r) in
      let out = both.outcome in
      let more = later.same in
      record { runs = one_more net a act rest then' later.runs; same = λ i. (x.place, sym out i) ∷ more i }

  pub record AreAlone (w b : World) (v : ℕ) (hs : List (List Work)) : Type 0 where
    pub chains : AreChains net w v (map actions_in hs)
    pub same : turned (flat (map (done_from net w) hs)) ≡ turned (done_from net b (flat hs))

  pub histories_alone : (w : World) → Conserved net w → (hs : List (List Work)) (v : ℕ) (b : World) → Conserved net b → ((k : ℕ) → v ≤ k → SameFor net k w b) → AreOfNodes net v hs →
      IsRun net b (actions_in (flat hs)) → AreAlone w b v hs
  unfolding done_from
  histories_alone w c [] v b d same nodes r = record { chains = tt; same = refl }
  histories_alone w c (h ∷ hs) v b d same nodes r =
      let all : IsRun net b (actions_in h ++ actions_in (flat hs)) = subst (IsRun net b) (actions-append h (flat hs)) r in
      let now : IsRun net b (actions_in h) = runs_first net (actions_in h) (actions_in (flat hs)) b all in
      let after : World = run net b (actions_in h) in
      let mine = made_alone v h w b c d (same v (omega arith)) nodes.0 now in
      let rest = histories_alone w c hs (v + 1) after (kept net network (actions_in h) b d now) (λ k more.
      same_for_then net k w b after (same k (omega (arith, more))) (other_history net network k v (λ e. absurd (apart k v more e)) (actions_in h) b d nodes.0 now)) nodes.1
      (runs_after net (actions_in h) (actions_in (flat hs)) b all) in
      record {
        chains = (nodes.0, mine.runs, rest.chains);
        same = map-append turn_done (done_from net w h) (flat (map (done_from net w) hs))
            ∙ (let one = mine.same in let more = rest.same in λ i. one i ++ more i)
            ∙ sym (map-append turn_done (done_from net b h) (done_from net after (flat hs)))
            ∙ ap turned (sym (done-append net h (flat hs) b));
      }
    where
      apart : (k v : ℕ) → v + 1 ≤ k → k ≡ v → ⊥
      apart k v more e = omega (arith, more, e)
