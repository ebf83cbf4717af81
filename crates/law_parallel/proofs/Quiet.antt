-- After the sequence the network is quiet.
use Rattle.std.proofs.Common.{◌≡◌, ℕ, zero, suc, ◌<◌, Bool, true, false, ◌||◌, List, [], ◌∷◌, map, refl, sym, ◌∙◌, ap, subst, arith}
use Rattle.std.specs.Prelude.{◌==◌, nat_lt, if◌then◌else◌}
use Rattle.std.specs.List.{list_any, AllByRecursion}
use Rattle.std.proofs.lemmas.Bool.{ltb-true}
use Rattle.std.proofs.lemmas.Bool.Decides.{nat_tests}
use Rattle.std.proofs.lemmas.List.Folds.{list_any-append}
use Rattle.qkd_base.specs.Family.{number_set}
use Rattle.qkd_base.specs.declared.lane.Lane.{Lane}
use Rattle.qkd_base.specs.declared.lane.Way.TheVariants.{Up, Down}
use Rattle.net_model.specs.declared.placing.Placing.{Placing}
use Rattle.net_model.specs.Site.{sender, receiver, count_up}
use Rattle.net_model.specs.World.{Network, World}
use Rattle.net_model.specs.Premises.{IsNetwork}
use Rattle.net_model.specs.Invariant.{Conserved}
use Rattle.net_model.specs.Events.{is_lane}
use Rattle.net_model.specs.Tick.{Emission, Again, New}
use Rattle.net_model.specs.Action.{Action, Ask, Deliver, Complete, is_shown, environment_of}
use Rattle.net_model.specs.Step.{step, is_enabled, IsStep, run, IsRun}
use Rattle.net_model.specs.BlockOrder.{is_block_event, is_turn_of, completions}
use Rattle.run_model.specs.Works.{Work, actions_in}
use Rattle.run_ops.specs.Quiet.{IsQuiet}
use Rattle.law_base.proofs.Base.{and_left, eq_from, or_left, or_right}
use Rattle.law_invariant.proofs.Steps.{step_keeps}
use Rattle.law_locality.proofs.Completions.{IsDone}
use Rattle.law_locality.proofs.Runs.{first_step, later_steps, run_none, run_one}
use Rattle.law_locality.specs.Touched.{touches_node}
use Rattle.law_locality.proofs.LaneSteps.{step_lane}
use Rattle.law_locality.proofs.ManagerSteps.{step_unseen}
use Rattle.law_parallel.specs.Putting.{Putting, emission_works, one_by_one}
use Rattle.law_parallel.specs.Remaining.{AreTurns}
use Rattle.law_base.proofs.Lists.{all_both}
use Rattle.law_parallel.proofs.Claims.{emissions, AreOnLanes}
use Rattle.law_parallel.proofs.Puts.{after}
use Rattle.law_parallel.proofs.Runs.{actions-append}

-- The sender of each declared lane is a declared node.

pub sender_node : (net : Network) → IsNetwork net → (l : Lane) → is_lane net.site l ≡ true → sender net.site l < net.site.nodes
sender_node net network l h =
    let ends = network.site.ends l.link (ltb-true l.link net.site.links h) in
    elim l.way as (λ way. sender net.site (record l { way = way }) < net.site.nodes) [
      | Up ↦ let order = ends.order in let within = ends.within in omega (arith, order, within)
      | Down ↦ ends.within
    ]

other_than : (v u n : ℕ) → v < n → nat_lt u n ≡ false → (v == u) ≡ false
other_than v u n h k = grind (arith, nat_tests)

module _ (net : Network) (network : IsNetwork net) where
  abbrev AreUntouched : ℕ → List Action → Type 0
  AreUntouched u xs = AllByRecursion (λ (a : Action). touches_node net.site a u ≡ false) xs

  placings_stay : (u : ℕ) (xs : List Action) (w : World) → Conserved net w → IsRun net w xs → AreUntouched u xs → (run net w xs).placings u ≡ w.placings u
  placings_stay u [] w c h away = ap (λ (x : World). x.placings u) (run_none net w)
  placings_stay u (a ∷ xs) w c h away =
      let now : IsStep net w a = first_step net w a xs h in
      let may : is_enabled net w a ≡ true = and_left (is_enabled net w a) (is_shown (environment_of a) (step net w a).1) now in
      ap (λ (x : World). x.placings u) (run_one net w a xs)
      ∙ placings_stay u xs (step net w a).0 (step_keeps net w a network now c) (later_steps net w a xs h) away.1
      ∙ (step_unseen net w network c u a may away.0).placings

  turn_away : (u v : ℕ) (a : Action) → nat_lt u net.site.nodes ≡ false → v < net.site.nodes → is_turn_of net.site v a ≡ true → touches_node net.site a u ≡ false
  turn_away u v (Ask k event environment) far node turn =
      let is : k ≡ v = eq_from k v (and_left (k == v) (is_block_event event) turn) in
      ap (λ (n : ℕ). n == u) is ∙ other_than v u net.site.nodes node far
  turn_away u v (Deliver l number environment) far node turn =
      let is : receiver net.site l ≡ v = eq_from (receiver net.site l) v turn in
      ap (λ (n : ℕ). n == u) is ∙ other_than v u net.site.nodes node far
  turn_away u v _ far node turn = absurd (cc)

  pub turns_away : (u : ℕ) → nat_lt u net.site.nodes ≡ false → (works : List Work) → AreTurns net works → AreUntouched u (actions_in works)
  turns_away u far [] h = tt
  turns_away u far (x ∷ works) h = (turn_away u h.0.0 x.action far h.0.1 h.0.2, turns_away u far works h.1)

  works_away : (u : ℕ) → nat_lt u net.site.nodes ≡ false → (w : World) (p : Putting) (e : Emission) → AreOnLanes net.site (e ∷ []) → AreUntouched u (actions_in (emission_works w p.place p.answer e))
  works_away u far w p (Again r) h = (other_than (sender net.site r.lane) u net.site.nodes (sender_node net network r.lane h.0) far, tt)
  works_away u far w p (New o) h = (refl, (other_than (sender net.site o.lane) u net.site.nodes (sender_node net network o.lane h.0) far, tt))

  pub ones_away : (u : ℕ) → nat_lt u net.site.nodes ≡ false → (ps : List Putting) (w : World) → AreOnLanes net.site (emissions ps) → AreUntouched u (actions_in (one_by_one net w ps))
  unfolding one_by_one
  ones_away u far [] w h = tt
  ones_away u far (p ∷ ps) w h =
      subst (AreUntouched u) (sym (actions-append (emission_works w p.place p.answer p.emission) (one_by_one net (after net w p) ps)))
      (all_both (λ (a : Action). touches_node net.site a u ≡ false) (actions_in (emission_works w p.place p.answer p.emission)) (actions_in (one_by_one net (after net w p) ps))
      (works_away u far w p p.emission (h.0, tt)) (ones_away u far ps (after net w p) h.1))

  -- Lemmas on noting what became of frames.

  noted_one : (w : World) (v : ℕ) → (step net w (Complete v)).0.placings ≡ number_set w.placings v []
  unfolding step
  noted_one w v = refl

  set_none : (f : ℕ → List Placing) (v u : ℕ) → f u ≡ [] → number_set f v [] u ≡ []
  set_none f v u h = elim (u == v) as (λ t. (if t then [] else f u) ≡ []) [ true ↦ refl | false ↦ h ]

  pub none_noted : (vs : List ℕ) (w : World) (u : ℕ) → w.placings u ≡ [] → (run net w (map (λ v. Complete v) vs)).placings u ≡ []
  none_noted [] w u h = ap (λ (x : World). x.placings u) (run_none net w) ∙ h
  none_noted (v ∷ vs) w u h =
      ap (λ (x : World). x.placings u) (run_one net w (Complete v) (map (λ v. Complete v) vs)) ∙
      none_noted vs (step net w (Complete v)).0 u (ap (λ (f : ℕ → List Placing). f u) (noted_one w v) ∙ set_none w.placings v u h)

  all_noted : (vs : List ℕ) (w : World) (u : ℕ) → list_any (λ v. u == v) vs ≡ true → (run net w (map (λ v. Complete v) vs)).placings u ≡ []
  all_noted [] w u h = cc
  all_noted (v ∷ vs) w u h =
      let next : World = (step net w (Complete v)).0 in
      ap (λ (x : World). x.placings u) (run_one net w (Complete v) (map (λ v. Complete v) vs)) ∙
      (elim (u == v) as (λ t. (u == v) ≡ t → (t || list_any (λ k. u == k) vs) ≡ true → (run net next (map (λ v. Complete v) vs)).placings u ≡ []) [
        | true ↦ λ e k. none_noted vs next u (ap (λ (f : ℕ → List Placing). f u) (noted_one w v) ∙ ap (λ (b : Bool). if b then [] else w.placings u) e)
        | false ↦ λ e k. all_noted vs next u k
      ] refl h)

  is_counted : (n u : ℕ) → u < n → list_any (λ v. u == v) (count_up n) ≡ true
  is_counted zero u h = absurd (omega (arith, h))
  is_counted (suc n) u h =
      list_any-append (λ v. u == v) (count_up n) (n ∷ []) ∙
      (elim (u == n) as (λ t. (u == n) ≡ t → (list_any (λ v. u == v) (count_up n) || (t || false)) ≡ true) [
        | true ↦ λ e. or_right (list_any (λ v. u == v) (count_up n)) true refl
        | false ↦ λ e. or_left (list_any (λ v. u == v) (count_up n)) false (is_counted n u (below n u h e))
      ] refl)
    where
      below : (n u : ℕ) → u < suc n → (u == n) ≡ false → u < n
      below n u h e = grind (arith, nat_tests)

  record AreLeft (w x : World) : Type 0 where
    unclaimed : (l : Lane) → x.unclaimed l ≡ w.unclaimed l
    outgoing : (l : Lane) → x.outgoing l ≡ w.outgoing l

  lanes_left : (vs : List ℕ) (w : World) → Conserved net w → IsRun net w (map (λ v. Complete v) vs) → AreLeft w (run net w (map (λ v. Complete v) vs))
  lanes_left [] w c h = subst (AreLeft w) (sym (run_none net w)) (record { unclaimed = λ l. refl; outgoing = λ l. refl })
  lanes_left (v ∷ vs) w c h =
      let a : Action = Complete v in
      let rest : List Action = map (λ v. Complete v) vs in
      let now : IsStep net w a = first_step net w a rest h in
      let may : is_enabled net w a ≡ true = and_left (is_enabled net w a) (is_shown (environment_of a) (step net w a).1) now in
      let later = lanes_left vs (step net w a).0 (step_keeps net w a network now c) (later_steps net w a rest h) in
      subst (AreLeft w) (sym (run_one net w a rest)) (record {
        unclaimed = λ l. later.unclaimed l ∙ (step_lane net w l network c a may refl).unclaimed;
        outgoing = λ l. later.outgoing l ∙ (step_lane net w l network c a may refl).outgoing;
      })

  pub quiet_after : (w : World) → Conserved net w → IsDone net w → IsRun net w (completions net) → ((u : ℕ) → nat_lt u net.site.nodes ≡ false → w.placings u ≡ []) →
      IsQuiet (run net w (completions net))
  quiet_after w c d h far =
      let left = lanes_left (count_up net.site.nodes) w c h in
      record {
        claimed = λ l. left.unclaimed l ∙ d.orders l;
        put = λ l. left.outgoing l ∙ d.puts l;
        noted = λ u. elim (nat_lt u net.site.nodes) as (λ t. nat_lt u net.site.nodes ≡ t → (run net w (completions net)).placings u ≡ []) [
          | true ↦ λ e. all_noted (count_up net.site.nodes) w u (is_counted net.site.nodes u (ltb-true u net.site.nodes e))
          | false ↦ λ e. none_noted (count_up net.site.nodes) w u (far u e)
        ] refl;
      }

  -- No note waits under a number that no node has.
  pub none_far : (xs : List Action) (w : World) → Conserved net w → IsRun net w xs → IsQuiet w → (u : ℕ) → AreUntouched u xs → (run net w xs).placings u ≡ []
  none_far xs w c h quiet u away = placings_stay u xs w c h away ∙ quiet.noted u
