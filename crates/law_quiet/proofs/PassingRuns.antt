-- Through a run without starts, a lane whose ends are up at its end stays passing.
use Rattle.std.proofs.Common.{◌≡◌, ℕ, ◌<◌, Bool, true, false, ◌&&◌, ◌||◌, List, [], ◌∷◌, refl, sym, subst, arith, inl, inr}
use Rattle.std.specs.Prelude.{nat_lt, length}
use Rattle.std.specs.List.{list_any}
use Rattle.std.proofs.lemmas.Bool.{lt-ltb}
use Rattle.qkd_base.specs.declared.lane.Lane.{Lane}
use Rattle.net_model.specs.Premises.{IsNetwork}
use Rattle.net_model.specs.Events.{is_lane}
use Rattle.net_model.specs.Site.{sender, receiver}
use Rattle.net_model.specs.World.{Network, World}
use Rattle.net_model.specs.Invariant.{Conserved}
use Rattle.net_model.specs.Action.{Action, is_shown, environment_of}
use Rattle.net_model.specs.Step.{step, is_enabled, is_step, run, is_run, IsRun}
use Rattle.law_base.proofs.Base.{split, or_left, or_right, and_left, and_right, or_first, or_second, or_same}
use Rattle.law_invariant.proofs.Steps.{step_keeps}
use Rattle.law_locality.specs.Quiet.{IsQuiet}
use Rattle.law_quiet.specs.Passes.{is_start, is_pass_of, is_heard, was_passed, PassesAll}
use Rattle.law_quiet.specs.Named.{AreNaming}
use Rattle.law_quiet.specs.Still.{flies_on}
use Rattle.law_quiet.proofs.HearingSteps.{step_up}
use Rattle.law_quiet.proofs.Passing.{IsPassing, with_pass, step_passing}
use Rattle.law_quiet.proofs.RestingLanes.{rest_passing}

or_shifts : (a b d : Bool) → ((a || b) || d) ≡ (a || (b || d))
or_shifts true b d = refl
or_shifts false b d = refl

relabel : (net : Network) (l : Lane) (w : World) (f g : Lane → ℕ → Bool) → ((m : Lane) (k : ℕ) → f m k ≡ g m k) → IsPassing net l f w → IsPassing net l g w
relabel net l w f g same h = subst (λ (p : Lane → ℕ → Bool). IsPassing net l p w) (λ i. λ m k. same m k i) h

-- The lane is passing, and each frame on a wire of the site counts as passed.
pub record IsAllPassed (net : Network) (w : World) (l : Lane) : Type 0 where
  pub passed : Lane → ℕ → Bool
  pub passing : IsPassing net l passed w
  pub all : (m : Lane) (k : ℕ) → is_lane net.site m ≡ true → k < length (w.wire m) → passed m k ≡ true

module _ (net : Network) (network : IsNetwork net) where
  -- Who is up at the end of such a run was up from its beginning on.
  pub run_up : (actions : List Action) (w : World) (u : ℕ) → Conserved net w → list_any is_start actions ≡ false → IsRun net w actions → (run net w actions).up u ≡ true → w.up u ≡ true
  unfolding run is_run
  run_up [] w u c none r up = up
  run_up (a ∷ actions) w u c none r up =
      let new : World = (step net w a).0 in
      let here = and_left (is_step net w a) (is_run net new actions) r in
      let may = and_left (is_enabled net w a) (is_shown (environment_of a) (step net w a).1) here in
      step_up net w network c u a (or_first (is_start a) _ none) may
      (run_up actions new u (step_keeps net w a network here c) (or_second (is_start a) _ none) (and_right (is_step net w a) (is_run net new actions) r) up)

  pub run_passing : (l : Lane) (actions : List Action) (w : World) (passed : Lane → ℕ → Bool) → Conserved net w → IsPassing net l passed w → list_any is_start actions ≡ false → IsRun net w actions →
      (run net w actions).up (sender net.site l) ≡ true → (run net w actions).up (receiver net.site l) ≡ true →
      IsPassing net l (λ m k. passed m k || was_passed net w actions m k) (run net w actions)
  unfolding run is_run was_passed
  run_passing l [] w passed c h none r alive there = relabel net l w passed (λ m k. passed m k || false) (λ m k. sym (or_same (passed m k) false refl)) h
  run_passing l (a ∷ actions) w passed c h none r alive there =
      let new : World = (step net w a).0 in
      let here = and_left (is_step net w a) (is_run net new actions) r in
      let rest = and_right (is_step net w a) (is_run net new actions) r in
      let later = or_second (is_start a) (list_any is_start actions) none in
      let c' : Conserved net new = step_keeps net w a network here c in
      let alive' : new.up (sender net.site l) ≡ true = run_up actions new (sender net.site l) c' later rest alive in
      let there' : new.up (receiver net.site l) ≡ true = run_up actions new (receiver net.site l) c' later rest there in
      relabel net l (run net new actions) (λ m k. with_pass net w a passed m k || was_passed net new actions m k)
      (λ m k. passed m k || ((is_pass_of m k a && is_heard (step net w a).1) || was_passed net new actions m k))
      (λ m k. or_shifts (passed m k) (is_pass_of m k a && is_heard (step net w a).1) (was_passed net new actions m k))
      (run_passing l actions new (with_pass net w a passed) c' (step_passing net w network c l passed h a (or_first (is_start a) _ none) here alive' there') later rest alive there)

  -- If all frames that were put in the run were passed, all frames on wires count as passed.
  pub run_passes : (l : Lane) (actions : List Action) (w : World) → Conserved net w → IsQuiet w → AreNaming w → list_any (flies_on l) (w.volatile (sender net.site l)).window ≡ false → IsRun net w actions → PassesAll net w actions →
      (run net w actions).up (sender net.site l) ≡ true → (run net w actions).up (receiver net.site l) ≡ true → IsAllPassed net (run net w actions) l
  run_passes l actions w c quiet naming clear r passes alive there = record {
    passed = λ m k. nat_lt k (length (w.wire m)) || was_passed net w actions m k;
    passing = run_passing l actions w (λ m k. nat_lt k (length (w.wire m))) c (rest_passing net w c quiet naming l clear) passes.starts r alive there;
    all = λ m k site less. elim (split k (length (w.wire m))) [
      | inl old ↦ or_left (nat_lt k (length (w.wire m))) _ (lt-ltb k (length (w.wire m)) old)
      | inr (more, is) ↦ or_right (nat_lt k (length (w.wire m))) _ (passes.passed m k site (omega (arith, is)) less)
    ];
  }
