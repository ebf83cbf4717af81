-- Histories that are made separately, each from the same world, have the same outcomes as in the run that puts them
-- in sequence.
use Rattle.std.proofs.Common.{◌≡◌, ◌∙◌, ℕ, ◌+◌, ◌≤◌, true, List, [], ◌∷◌, ◌++◌, map, refl, sym, ap, arith}
use Rattle.std.specs.List.{list_all, flat_map}
use Rattle.net_model.specs.World.{Network, World}
use Rattle.net_model.specs.Premises.{IsNetwork}
use Rattle.net_model.specs.Invariant.{Conserved}
use Rattle.net_model.specs.Action.{Action, Outcome, environment_of, is_shown}
use Rattle.net_model.specs.Step.{step, run, outcomes, is_enabled, IsStep, IsRun}
use Rattle.net_model.specs.BlockOrder.{AreChains, is_turn_of, all_histories}
use Rattle.run_types.specs.declared.line.Line.{Line}
use Rattle.run_model.specs.Turn.{HttpTexts}
use Rattle.run_model.specs.Works.{Work, Works, Done, flat, actions_in, parts, done_from, turns_done, IsBlockOf}
use Rattle.law_base.proofs.Base.{and_left, and_right}
use Rattle.law_invariant.proofs.Steps.{step_keeps}
use Rattle.law_locality.proofs.Runs.{first_step, later_steps}
use Rattle.law_locality.proofs.Views.{SameFor, same_for, same_for_then}
use Rattle.law_locality.proofs.Turns.{turn_same}
use Rattle.law_locality.proofs.Chains.{kept, own_history, other_history}

outcomes-append : (net : Network) (xs ys : List Action) (w : World) → outcomes net w (xs ++ ys) ≡ outcomes net w xs ++ outcomes net (run net w xs) ys
unfolding outcomes run
outcomes-append net [] ys w = refl
outcomes-append net (x ∷ xs) ys w = ap (λ (os : List Outcome). (step net w x).1 ∷ os) (outcomes-append net xs ys (step net w x).0)

module _ (net : Network) (network : IsNetwork net) where
  -- The history of a node has the same outcomes in every world in which the node sees the same.
  own_outcomes : (v : ℕ) (xs : List Action) (a b : World) → Conserved net a → Conserved net b → SameFor net v a b → list_all (is_turn_of net.site v) xs ≡ true → IsRun net a xs → IsRun net b xs →
      outcomes net b xs ≡ outcomes net a xs
  unfolding outcomes
  own_outcomes v [] a b c d h turns r q = refl
  own_outcomes v (x ∷ xs) a b c d h turns r q =
      let turn = and_left (is_turn_of net.site v x) (list_all (is_turn_of net.site v) xs) turns in
      let now : IsStep net a x = first_step net a x xs r in
      let then' : IsStep net b x = first_step net b x xs q in
      let may : is_enabled net a x ≡ true = and_left (is_enabled net a x) (is_shown (environment_of x) (step net a x).1) now in
      let same = turn_same net network v a b c d h x turn may in
      let rest = own_outcomes v xs (step net a x).0 (step net b x).0 (step_keeps net a x network now c) (step_keeps net b x network then' d) same.world
      (and_right (is_turn_of net.site v x) (list_all (is_turn_of net.site v) xs) turns) (later_steps net a x xs r) (later_steps net b x xs q) in
      let one = same.outcome in
      λ i. one i ∷ rest i

  histories_outcomes : (w : World) → Conserved net w → (hs : List (List Action)) (v : ℕ) (b : World) → Conserved net b → ((k : ℕ) → v ≤ k → SameFor net k w b) → AreChains net w v hs →
      outcomes net b (flat_map (λ h. h) hs) ≡ flat_map (outcomes net w) hs
  unfolding outcomes
  histories_outcomes w c [] v b d same chains = refl
  histories_outcomes w c (h ∷ hs) v b d same chains =
      let now : IsRun net b h = own_history net network v h w b c d (same v (omega arith)) chains.0 chains.1 in
      let here = own_outcomes v h w b c d (same v (omega arith)) chains.0 chains.1 now in
      let rest = histories_outcomes w c hs (v + 1) (run net b h) (kept net network h b d now) (λ k more.
      same_for_then net k w b (run net b h) (same k (omega (arith, more))) (other_history net network k v (λ e. absurd (apart k v more e)) h b d chains.0 now)) chains.2 in
      outcomes-append net h (flat_map (λ x. x) hs) b ∙ (λ i. here i ++ rest i)
    where
      apart : (k v : ℕ) → v + 1 ≤ k → k ≡ v → ⊥
      apart k v more e = omega (arith, more, e)

-- The outcomes of works that were done.
done_outcomes : (net : Network) (w : World) (xs : List Work) → map (λ (d : Done). d.outcome) (done_from net w xs) ≡ outcomes net w (actions_in xs)
unfolding done_from outcomes
done_outcomes net w [] = refl
done_outcomes net w (x ∷ xs) = ap (λ (os : List Outcome). (step net w x.action).1 ∷ os) (done_outcomes net (step net w x.action).0 xs)

map-append' : {A B : Type 0} (f : A → B) (xs ys : List A) → map f (xs ++ ys) ≡ map f xs ++ map f ys
map-append' f [] ys = refl
map-append' f (x ∷ xs) ys = ap (λ (zs : _). f x ∷ zs) (map-append' f xs ys)

all_outcomes : (net : Network) (w : World) (hs : List (List Work)) → map (λ (d : Done). d.outcome) (flat (map (done_from net w) hs)) ≡ flat_map (outcomes net w) (map actions_in hs)
all_outcomes net w [] = refl
all_outcomes net w (h ∷ hs) =
    let here = done_outcomes net w h in
    let rest = all_outcomes net w hs in
    map-append' (λ (d : Done). d.outcome) (done_from net w h) (flat (map (done_from net w) hs)) ∙ (λ i. here i ++ rest i)

pub turns_by_themselves : (http : HttpTexts) (net : Network) (workers : ℕ) (w : World) (lines : List Line) (b : Works) → IsNetwork net → Conserved net w → IsBlockOf http net workers w lines b →
    map (λ (d : Done). d.outcome) (flat (turns_done net w b)) ≡ outcomes net w (all_histories (parts b))
turns_by_themselves http net workers w lines b network c h =
    all_outcomes net w b.histories ∙ sym (histories_outcomes net network w c (parts b).histories 0 w c (λ k more. same_for net k w) h.block.chains)
