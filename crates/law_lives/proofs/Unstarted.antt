-- A node that was never started made no batch, so no batch gives it back.
use Rattle.std.proofs.Common.{◌≡◌, ℕ, ◌<◌, Bool, true, false, List, [], ◌∷◌, ◌++◌, refl, sym, ◌∙◌, ap, subst}
use Rattle.std.specs.Prelude.{◌==◌}
use Rattle.net_model.specs.declared.record.Record.{Record}
use Rattle.net_model.specs.Premises.{IsNetwork}
use Rattle.net_model.specs.World.{Network, World, InDoubt, first}
use Rattle.net_model.specs.Journal.{is_blank}
use Rattle.net_model.specs.Needed.{view_of}
use Rattle.net_model.specs.Invariant.{Conserved}
use Rattle.net_model.specs.Start.{recovers, start, restarted, may_resolve}
use Rattle.net_model.specs.Action.{Action, Recovery, Outcome, Start, Crash, Arm, SetLink, TakeBlock, Ask, Allocate, Transmit, Complete, Deliver, Flip, Forge, Recovers, Resumes, Interrupted, NoMemory, Foreign, WasUp}
use Rattle.net_model.specs.Step.{step, is_step, run, is_run, IsRun}
use Rattle.run_model.specs.Begin.{MayBegin}
use Rattle.run_model.specs.Left.{found, batch_made, batches_made}
use Rattle.law_base.proofs.Base.{and_left, and_right, eq_from, not_both, not_false, number_set_same, when_false}
use Rattle.law_invariant.proofs.Steps.{step_keeps}
use Rattle.law_recovery.specs.GivesBack.{GivesBack}
use Rattle.law_recovery.proofs.Empty.{first_empty}
use Rattle.law_recovery.proofs.Restarting.{nothing_given}
use Rattle.law_run.proofs.Resting.{rest_fits, gives_back}
use Rattle.law_lives.specs.Left.{AreCurrent}
use Rattle.law_run.proofs.Folds.{made_gives_back}
use Rattle.law_lives.proofs.Beginnings.{IsBegun, still_begun, was_blank, blank_certain}

module _ (net : Network) (w : World) where
  start_is : (u : ℕ) (r : Recovery) → w.up u ≡ false → step net w (Start u r) ≡ recovers net w u r
  unfolding step start
  start_is u r down = when_false (w.up u) (w, WasUp) (recovers net w u r) down

  up_after : (u : ℕ) (committed : Bool) → (recovers net w u (Recovers committed)).0.up u ≡ true
  unfolding restarted
  up_after u committed = number_set_same w.up u true

  up_resumed : (u : ℕ) (committed : Bool) → (recovers net w u (Resumes committed)).0.up u ≡ true
  unfolding restarted
  up_resumed u committed = number_set_same w.up u true

  -- A start that found a batch left its node up.
  none_found : (a : Action) (v : ℕ) → w.up v ≡ false → (step net w a).0.up v ≡ false → found w a v ≡ []
  none_found (Start u (Recovers true)) v down after =
      when_false (u == v) _ _ (not_false (u == v) (λ e.
      let is : u ≡ v = eq_from u v e in
      let down' : w.up u ≡ false = ap w.up is ∙ down in
      let up : (step net w (Start u (Recovers true))).0.up u ≡ true = ap (λ (x : World × Outcome). x.0.up u) (start_is u (Recovers true) down') ∙ up_after u true in
      not_both ((step net w (Start u (Recovers true))).0.up u) up (ap (step net w (Start u (Recovers true))).0.up is ∙ after)))
  none_found (Start u (Resumes true)) v down after =
      when_false (u == v) _ _ (not_false (u == v) (λ e.
      let is : u ≡ v = eq_from u v e in
      let down' : w.up u ≡ false = ap w.up is ∙ down in
      let up : (step net w (Start u (Resumes true))).0.up u ≡ true = ap (λ (x : World × Outcome). x.0.up u) (start_is u (Resumes true) down') ∙ up_resumed u true in
      not_both ((step net w (Start u (Resumes true))).0.up u) up (ap (step net w (Start u (Resumes true))).0.up is ∙ after)))
  none_found (Start u (Recovers false)) v down after = refl
  none_found (Start u (Resumes false)) v down after = refl
  none_found (Start u (Interrupted made)) v down after = refl
  none_found (Start u NoMemory) v down after = refl
  none_found (Start u Foreign) v down after = refl
  none_found (Crash u) v down after = refl
  none_found (Arm u fault) v down after = refl
  none_found (SetLink link up) v down after = refl
  none_found (TakeBlock u link environment) v down after = refl
  none_found (Ask u event environment) v down after = refl
  none_found (Allocate t) v down after = refl
  none_found (Transmit l j environment) v down after = refl
  none_found (Complete u) v down after = refl
  none_found (Deliver l number environment) v down after = refl
  none_found (Flip l number bit environment) v down after = refl
  none_found (Forge l octets environment) v down after = refl

  -- A manager whose journal is blank is down.
  blank_down : Conserved net w → (v : ℕ) → is_blank (w.journal v) ≡ true → w.up v ≡ false
  blank_down c v e = not_false (w.up v) (λ up. not_both (is_blank (w.journal v)) e (c.started v up))

-- At rest nothing is in doubt.
current_begun : (net : Network) (w : World) → MayBegin net w → AreCurrent net w → IsBegun w
current_begun net w begins current v = record {
  version = current.version v;
  unsettled = λ none. ap (λ (d : InDoubt). d.checkpointed) (begins.rest.certain v);
  stays = λ none. none;
}

-- In a run at whose end the journal is blank no batch was made.
none_made : (net : Network) → IsNetwork net → (v : ℕ) (actions : List Action) (w : World) → Conserved net w → IsBegun w → IsRun net w actions →
    is_blank ((run net w actions).journal v) ≡ true → (is_blank (w.journal v) ≡ true) × (batches_made net v w actions ≡ [])
unfolding run is_run batches_made
none_made net network v [] w c b r e = (e, refl)
none_made net network v (a ∷ actions) w c b r e =
    let one = and_left (is_step net w a) (is_run net (step net w a).0 actions) r in
    let next : World = (step net w a).0 in
    let c' : Conserved net next = step_keeps net w a network one c in
    let rest = none_made net network v actions next c' (still_begun net w b a) (and_right (is_step net w a) (is_run net next actions) r) e in
    let blank : is_blank (w.journal v) ≡ true = was_blank net w b a v rest.0 in
    let down : w.up v ≡ false = blank_down net w c v blank in
    let none : batch_made net w a v ≡ [] = when_false (w.up v) _ (found w a v) down ∙ none_found net w a v down (blank_down net next c' v rest.0) in
    (blank, ap (λ (bs : List (List Record)). bs ++ batches_made net v next actions) none ∙ rest.1)

-- So it gives back nothing.
pub unstarted_given : (net : Network) (begin : World) (actions : List Action) (v : ℕ) → IsNetwork net → MayBegin net begin → AreCurrent net begin → IsRun net begin actions →
    v < net.site.nodes → is_blank ((run net begin actions).journal v) ≡ true → GivesBack net.site v [] (view_of net (run net begin actions) v)
unstarted_given net begin actions v network begins current r less blank =
    let none = none_made net network v actions begin begins.conserved (current_begun net begin begins current) r blank in
    subst (λ (bs : List (List Record)). GivesBack net.site v bs (view_of net (run net begin actions) v)) none.1
    (made_gives_back net network v actions begin begins.conserved (rest_fits net begin begins.rest) r [] (gives_back net begin v [] (current.unseen v less none.0)))

run_begun : (net : Network) (actions : List Action) (w : World) → IsBegun w → IsBegun (run net w actions)
unfolding run
run_begun net [] w b = b
run_begun net (a ∷ actions) w b = run_begun net actions (step net w a).0 (still_begun net w b a)

-- No checkpoint settled the doubt of a node that was never started.
pub unstarted_may : (net : Network) (begin : World) (actions : List Action) → MayBegin net begin → AreCurrent net begin → (v : ℕ) → is_blank ((run net begin actions).journal v) ≡ true →
    may_resolve ((run net begin actions).in_doubt v) false ≡ true
unstarted_may net begin actions begins current v blank =
    blank_certain (run net begin actions) (run_begun net actions begin (current_begun net begin begins current)) v blank

pub first_current : (net : Network) → AreCurrent net first
unfolding first
first_current net = record { version = λ v. refl; unseen = λ v less blank. first_empty net v ∙ sym (nothing_given net.site v) }
