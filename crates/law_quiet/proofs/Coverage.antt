-- How far the frames of each wire were passed, through actions and through the passes of a round.
use Rattle.std.proofs.Common.{◌≡◌, ℕ, ◌+◌, ◌<◌, ◌≤◌, Bool, true, false, ◌&&◌, List, length, refl, sym, ◌∙◌, ap, subst, arith, inl, inr}
use Rattle.std.specs.Prelude.{◌==◌, if◌then◌else◌}
use Rattle.qkd_base.specs.Lane.{lane_eq}
use Rattle.qkd_base.specs.declared.lane.Lane.{Lane}
use Rattle.net_model.specs.Premises.{IsNetwork}
use Rattle.net_model.specs.Events.{is_lane}
use Rattle.net_model.specs.Site.{sender, receiver}
use Rattle.net_model.specs.World.{Network, World}
use Rattle.net_model.specs.Invariant.{Conserved}
use Rattle.net_model.specs.Action.{Environment, Action, Start, Crash, Arm, SetLink, TakeBlock, Ask, Allocate, Transmit, Complete, Deliver, Flip, Forge, is_shown, environment_of}
use Rattle.net_model.specs.Step.{step, is_enabled, IsStep}
use Rattle.run_model.specs.Play.{plain}
use Rattle.law_base.proofs.Base.{split, by_other_lane, and_left, and_both, or_left, or_right, eq_same, lane_same}
use Rattle.law_invariant.proofs.Steps.{step_keeps}
use Rattle.law_quiet.specs.Passes.{is_start, is_heard}
use Rattle.law_quiet.proofs.HearingSteps.{step_up}
use Rattle.law_quiet.proofs.KeptQuiet.{sends_nothing}
use Rattle.law_quiet.proofs.Passing.{IsPassing, with_pass, step_passing}
use Rattle.law_quiet.proofs.PassingRuns.{IsAllPassed}
use Rattle.law_quiet.proofs.Wires.{same_wires}

-- Whether an action starts a manager, or sends anything, doesn't depend on what the outside answers.

pub plain_start : (a : Action) → is_start a ≡ is_start (plain a)
plain_start (Start v recovery) = refl
plain_start (Crash v) = refl
plain_start (Arm v fault) = refl
plain_start (SetLink link up) = refl
plain_start (TakeBlock v link environment) = refl
plain_start (Ask v event environment) = refl
plain_start (Allocate t) = refl
plain_start (Transmit l j environment) = refl
plain_start (Complete v) = refl
plain_start (Deliver l number environment) = refl
plain_start (Flip l number bit environment) = refl
plain_start (Forge l octets environment) = refl

module _ (net : Network) (network : IsNetwork net) (l : Lane) where
  -- The lane is passing, and the frames below these numbers count as passed.
  pub record IsCovered (upto : Lane → ℕ) (w : World) : Type 0 where
    pub passed : Lane → ℕ → Bool
    pub passing : IsPassing net l passed w
    pub all : (m : Lane) (k : ℕ) → is_lane net.site m ≡ true → k < upto m → passed m k ≡ true

  -- It is so while both ends of the lane are up.
  abbrev pub Covers : (Lane → ℕ) → World → Type 0
  Covers upto w = Conserved net w × (w.up (sender net.site l) ≡ true → w.up (receiver net.site l) ≡ true → IsCovered upto w)

  abbrev pub wires : World → Lane → ℕ
  wires w m = length (w.wire m)

  pub less_covers : (upto less : Lane → ℕ) → ((m : Lane) → is_lane net.site m ≡ true → less m ≤ upto m) → (w : World) → Covers upto w → Covers less w
  less_covers upto less fewer w h = (
    h.0,
    λ alive there. let x = h.1 alive there in
        record { passed = x.passed; passing = x.passing; all = λ m k site below. let le = fewer m site in x.all m k site (omega (arith, below, le)) },
  )

  module _ (upto : Lane → ℕ) (w : World) (h : Covers upto w) (a : Action) (other : is_start a ≡ false) (may : IsStep net w a) where
    new_up : (u : ℕ) → (step net w a).0.up u ≡ true → w.up u ≡ true
    new_up u up = step_up net w network h.0 u a other (and_left (is_enabled net w a) (is_shown (environment_of a) (step net w a).1) may) up

    pub step_covers : Covers upto (step net w a).0
    step_covers = (
      step_keeps net w a network may h.0,
      λ alive there. let x = h.1 (new_up (sender net.site l) alive) (new_up (receiver net.site l) there) in
          record {
            passed = with_pass net w a x.passed;
            passing = step_passing net w network h.0 l x.passed x.passing a other may alive there;
            all = λ m k site below. or_left (x.passed m k) _ (x.all m k site below);
          },
    )

  -- One more frame is passed.
  abbrev pub one_more : (Lane → ℕ) → Lane → ℕ → Lane → ℕ
  one_more upto m number x = if lane_eq x m then number else upto x

  pub pass_covers : (upto : Lane → ℕ) (m : Lane) (number : ℕ) (environment : Environment) → number ≤ upto m → (w : World) → Covers upto w → IsStep net w (Deliver m number environment) →
      is_heard (step net w (Deliver m number environment)).1 ≡ true → Covers (one_more upto m (number + 1)) (step net w (Deliver m number environment)).0
  pass_covers upto m number environment below w h may heard =
      let a : Action = Deliver m number environment in (
        step_keeps net w a network may h.0,
        λ alive there.
            let x = h.1 (new_up upto w h a refl may (sender net.site l) alive) (new_up upto w h a refl may (receiver net.site l) there) in
            record {
              passed = with_pass net w a x.passed;
              passing = step_passing net w network h.0 l x.passed x.passing a refl may alive there;
              all = λ y k. by_other_lane (λ z b. is_lane net.site z ≡ true → k < (if b then number + 1 else upto z) → with_pass net w a x.passed z k ≡ true) m
                  (λ site less. elim (split k number) [
                    | inl before ↦ or_left (x.passed m k) _ (x.all m k site (omega (arith, before, below)))
                    | inr (more, is) ↦
                        let last : number ≡ k = omega (arith, is, less) in
                        or_right (x.passed m k) _ (and_both (lane_eq m m && (k == number)) _ (and_both (lane_eq m m) (k == number) (lane_same m) (ap (λ (i : ℕ). k == i) last ∙ eq_same k)) heard)
                  ])
                  (λ z apart site less. or_left (x.passed z k) _ (x.all z k site less)) y;
            },
      )

  -- Between lines all frames on wires count as passed.

  abbrev pub AllCovered : World → Type 0
  AllCovered w = Covers (wires w) w

  pub all_passed : (w : World) → AllCovered w → w.up (sender net.site l) ≡ true → w.up (receiver net.site l) ≡ true → IsAllPassed net w l
  all_passed w h alive there = let x = h.1 alive there in record { passed = x.passed; passing = x.passing; all = x.all }

  -- An action that sends nothing keeps this.
  pub mute_covers : (w : World) → AllCovered w → (a : Action) → is_start a ≡ false → sends_nothing a ≡ true → IsStep net w a → AllCovered (step net w a).0
  mute_covers w h a other mute may =
      subst (λ (f : Lane → List ℕ). Covers (λ m. length (f m)) (step net w a).0) (sym (same_wires net w a mute other)) (step_covers (wires w) w h a other may)
