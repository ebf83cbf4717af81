-- The batches that a node made give it back, step by step.
use Rattle.std.proofs.Common.{◌≡◌, ◌≢◌, ◌∙◌, ℕ, Bool, true, false, ◌||◌, List, [], ◌∷◌, ◌++◌, refl, sym, ap, subst, Option, Some, None, inl, inr, append-nil}
use Rattle.std.specs.Prelude.{◌==◌, if◌then◌else◌}
use Rattle.qkd_base.specs.declared.lane.Lane.{Lane}
use Rattle.net_model.specs.declared.record.Record.{Record}
use Rattle.net_model.specs.Premises.{IsNetwork}
use Rattle.net_model.specs.World.{Network, World, Durable, Journal, InDoubt, Outgoing, Transmission}
use Rattle.net_model.specs.View.{View, handed_at}
use Rattle.net_model.specs.Doubt.{Extends}
use Rattle.net_model.specs.Needed.{view_of}
use Rattle.net_model.specs.Invariant.{Conserved}
use Rattle.net_model.specs.Action.{Action, Start, Crash, Arm, SetLink, TakeBlock, Ask, Allocate, Transmit, Complete, Deliver, Flip, Forge, Environment, Recovery, Recovers, Resumes, Interrupted, NoMemory, Foreign, Outcome, WasUp, is_io_fault, is_no_memory}
use Rattle.net_model.specs.Frames.{allocate, outgoing_of, transmit_one, transmit}
use Rattle.net_model.specs.Start.{resolved, resolved_durable, restarted, interrupted_start, recovers, start}
use Rattle.net_model.specs.Step.{step, crash, is_enabled}
use Rattle.net_model.specs.Fold.{view_batch, view_restarted}
use Rattle.run_model.specs.Left.{is_longer, none_or_one, changes, failing, found, batch_made}
use Rattle.law_base.proofs.Base.{by_test, when_true, when_false, eq_from, eq_same}
use Rattle.law_base.proofs.Extending.{extends_same}
use Rattle.law_base.proofs.Resuming.{resumed_durable}
use Rattle.law_recovery.proofs.Starting.{start_goes, resume_goes}
use Rattle.law_locality.proofs.Durables.{SameDurable, same_durable, other_replay}
use Rattle.law_recovery.specs.GivesBack.{GivesBack}
use Rattle.law_recovery.proofs.Restarting.{restarted_twice}
use Rattle.law_recovery.specs.Saved.{saved, DoubtsFit}
use Rattle.law_recovery.proofs.Views.{saved_same}
use Rattle.law_recovery.proofs.Effects.{other_set}
use Rattle.law_recovery.proofs.Steps.{asked_effect, incident_is}
use Rattle.law_run.proofs.Made.{Quiet, Made, quiet, quiet_same, one_of, doubt_given}
use Rattle.law_run.proofs.Walking.{handle_made, block_made, note_quiet, deliver_made, tampered_made, flip_made}

-- Lemmas on choices of batches.

none_made : (up longer : Bool) (xs ys : List (List Record)) → longer ≡ false → ys ≡ [] → (if up then (if longer then xs else []) else ys) ≡ []
none_made true true xs ys h k = cc
none_made true false xs ys h k = refl
none_made false longer xs ys h k = k

none_while_up : (up longer : Bool) (xs ys : List (List Record)) → up ≡ true → longer ≡ false → (if up then (if longer then xs else []) else ys) ≡ []
none_while_up true true xs ys u h = cc
none_while_up true false xs ys u h = refl
none_while_up false longer xs ys u h = cc

some_made : (up longer : Bool) (xs ys : List (List Record)) → up ≡ true → longer ≡ true → (if up then (if longer then xs else []) else ys) ≡ xs
some_made true true xs ys u h = refl
some_made true false xs ys u h = cc
some_made false longer xs ys u h = cc

-- Batches that give a node back before an action also do so after it, when the batch that the node made in it is
-- appended.
abbrev pub Given : Network → World → Action → ℕ → Type 0
Given net w a v = (batches : List (List Record)) → GivesBack net.site v batches (view_of net w v) →
    GivesBack net.site v (batches ++ batch_made net w a v) (view_of net (step net w a).0 v)

module _ (net : Network) (w : World) (a : Action) (v : ℕ) where
  with_these : (made : List (List Record)) → batch_made net w a v ≡ made → (batches : List (List Record)) →
      GivesBack net.site v (batches ++ made) (view_of net (step net w a).0 v) → GivesBack net.site v (batches ++ batch_made net w a v) (view_of net (step net w a).0 v)
  with_these made is batches h = subst (λ (bs : List (List Record)). GivesBack net.site v (batches ++ bs) (view_of net (step net w a).0 v)) (sym is) h

  with_none : batch_made net w a v ≡ [] → (batches : List (List Record)) → GivesBack net.site v batches (view_of net (step net w a).0 v) →
      GivesBack net.site v (batches ++ batch_made net w a v) (view_of net (step net w a).0 v)
  with_none is batches h =
      with_these [] is batches (subst (λ (bs : List (List Record)). GivesBack net.site v bs (view_of net (step net w a).0 v)) (sym (append-nil batches)) h)

  abbrev is_long : Bool
  is_long = is_longer (w.journal v) ((step net w a).0.journal v)

  quiet_given : Quiet net w (step net w a).0 v → found w a v ≡ [] → Given net w a v
  quiet_given q none batches h =
      with_none (none_made (w.up v) is_long (none_or_one (changes net w a v)) (found w a v) q.short none) batches (q.keeps batches h)

  quiet_up_given : w.up v ≡ true → Quiet net w (step net w a).0 v → Given net w a v
  quiet_up_given up q batches h =
      with_none (none_while_up (w.up v) is_long (none_or_one (changes net w a v)) (found w a v) up q.short) batches (q.keeps batches h)

  made_given : found w a v ≡ [] → Made net w (step net w a).0 (step net w (failing a)).0 v → Given net w a v
  made_given none (inl q) batches h = quiet_given q none batches h
  made_given none (inr m) batches h =
      with_these (m.batch ∷ [])
      (some_made (w.up v) is_long (none_or_one (changes net w a v)) (found w a v) m.up m.longer ∙ ap none_or_one m.doubt ∙ one_of m.batch m.some) batches (m.given batches h)

module _ (net : Network) (w : World) (network : IsNetwork net) (c : Conserved net w) where
  -- Lemmas on starts.

  other_durable : (u : ℕ) (committed : Bool) (v : ℕ) → v ≢ u → SameDurable net.site v w.durable (resolved_durable net.site w u committed)
  other_durable u true v apart = other_replay net.site v u apart w.durable w.frames w.unclaimed c.now (w.in_doubt u).batch (c.doubts u)
  other_durable u false v apart = same_durable net.site v w.durable

  -- Lemmas on a start of another node, whatever doubt it settled and wherever it moved the journal.
  restarted_there : (u v : ℕ) → v ≢ u → (d : Durable) → SameDurable net.site v w.durable d → (journal : ℕ → Journal) → journal v ≡ w.journal v → (in_doubt : ℕ → InDoubt) →
      Quiet net w (restarted net (record w { durable = d; journal = journal; in_doubt = in_doubt }) u) v
  unfolding restarted
  restarted_there u v apart d same journal same_journal in_doubt =
      quiet net w _ v (other_set journal u v _ apart ∙ same_journal) (saved_same net v w _ same.extends same.acked same.closed same.handed)

  interrupted_there : (u : ℕ) (made : Option Bool) (v : ℕ) → v ≢ u → Quiet net w (interrupted_start net w u made) v
  interrupted_there u None v apart = quiet net w _ v refl (saved_same net v w _ (extends_same net.site v w.durable) refl refl refl)
  interrupted_there u (Some committed) v apart =
      quiet net w _ v (other_set w.journal u v _ apart) (saved_same net v w _ (extends_same net.site v w.durable) refl refl refl)

  recovers_there : (u : ℕ) (r : Recovery) (v : ℕ) → v ≢ u → Quiet net w (recovers net w u r).0 v
  recovers_there u (Recovers committed) v apart =
      let next : World = resolved net.site w u committed in
      restarted_there u v apart next.durable (other_durable u committed v apart) next.journal (other_set w.journal u v _ apart) next.in_doubt
  recovers_there u (Resumes committed) v apart =
      let halted : World = interrupted_start net w u (Some committed) in
      let next : World = resolved net.site halted u committed in
      restarted_there u v apart next.durable (subst (SameDurable net.site v w.durable) (sym (resumed_durable net w u committed)) (other_durable u committed v apart)) next.journal
      (other_set halted.journal u v _ apart ∙ other_set w.journal u v _ apart) next.in_doubt
  recovers_there u (Interrupted made) v apart = interrupted_there u made v apart
  recovers_there u NoMemory v apart = quiet_same net w v
  recovers_there u Foreign v apart = quiet_same net w v

  start_there : (u : ℕ) (r : Recovery) (v : ℕ) → v ≢ u → Quiet net w (step net w (Start u r)).0 v
  unfolding step start
  start_there u r v apart =
      by_test (λ (x : World × Outcome). Quiet net w x.0 v) (w.up u) _ _ (λ up. quiet_same net w v) (λ down. recovers_there u r v apart)

  start_up : (u : ℕ) (r : Recovery) → w.up u ≡ true → Quiet net w (step net w (Start u r)).0 u
  unfolding step start
  start_up u r up = subst (λ (x : World × Outcome). Quiet net w x.0 u) (sym (when_true (w.up u) (w, WasUp) (recovers net w u r) up)) (quiet_same net w u)

  start_is : (u : ℕ) (r : Recovery) → w.up u ≡ false → step net w (Start u r) ≡ recovers net w u r
  unfolding step start
  start_is u r down = when_false (w.up u) (w, WasUp) (recovers net w u r) down

  found_there : (u : ℕ) (r : Recovery) (v : ℕ) → (u == v) ≡ false → found w (Start u r) v ≡ []
  found_there u (Recovers true) v apart = when_false (u == v) (none_or_one (w.in_doubt v).batch) [] apart
  found_there u (Recovers false) v apart = refl
  found_there u (Resumes true) v apart = when_false (u == v) (none_or_one (w.in_doubt v).batch) [] apart
  found_there u (Resumes false) v apart = refl
  found_there u (Interrupted made) v apart = refl
  found_there u NoMemory v apart = refl
  found_there u Foreign v apart = refl

  -- A start that leaves the durable part of its node unchanged.
  kept_down : (u : ℕ) (r : Recovery) → w.up u ≡ false → found w (Start u r) u ≡ [] → saved net (recovers net w u r).0 u ≡ saved net w u → Given net w (Start u r) u
  kept_down u r down none view batches h =
      with_none net w (Start u r) u (when_false (w.up u) _ (found w (Start u r) u) down ∙ none) batches
      (h ∙ sym view ∙ ap (λ (x : World × Outcome). saved net x.0 u) (sym (start_is u r down)))

  saved_interrupted : (u : ℕ) (made : Option Bool) → saved net (interrupted_start net w u made) u ≡ saved net w u
  saved_interrupted u None = saved_same net u w _ (extends_same net.site u w.durable) refl refl refl
  saved_interrupted u (Some committed) = saved_same net u w _ (extends_same net.site u w.durable) refl refl refl

  -- A start that finds the batch in doubt, and one that doesn't.
  found_down : (u : ℕ) (r : Recovery) → w.up u ≡ false → found w (Start u r) u ≡ (if u == u then none_or_one (w.in_doubt u).batch else []) →
      view_of net (step net w (Start u r)).0 u ≡ view_restarted (view_batch (view_of net w u) (w.in_doubt u).batch) → Given net w (Start u r) u
  found_down u r down finds goes batches h =
      let batch : List Record = (w.in_doubt u).batch in
      let seen : View = view_of net w u in
      with_these net w (Start u r) u (none_or_one batch)
      (when_false (w.up u) _ (found w (Start u r) u) down ∙ finds ∙ when_true (u == u) (none_or_one batch) [] (eq_same u)) batches
      (doubt_given net.site u batches seen batch h ∙ sym (restarted_twice (view_batch seen batch)) ∙ ap view_restarted (sym goes))

  without_down : (u : ℕ) (r : Recovery) → w.up u ≡ false → found w (Start u r) u ≡ [] → view_of net (step net w (Start u r)).0 u ≡ view_restarted (view_of net w u) →
      Given net w (Start u r) u
  without_down u r down none goes =
      kept_down u r down none
      (ap (λ (x : World × Outcome). saved net x.0 u) (sym (start_is u r down)) ∙ ap view_restarted goes ∙ restarted_twice (view_of net w u))

  start_down : DoubtsFit net w → (u : ℕ) (r : Recovery) → w.up u ≡ false → is_enabled net w (Start u r) ≡ true → Given net w (Start u r) u
  start_down fits u (Recovers true) down enabled = found_down u (Recovers true) down refl (start_goes net w u true down enabled c (λ e. fits u))
  start_down fits u (Recovers false) down enabled = without_down u (Recovers false) down refl (start_goes net w u false down enabled c (λ e. cc))
  start_down fits u (Resumes true) down enabled = found_down u (Resumes true) down refl (resume_goes net w u true down enabled c (λ e. fits u))
  start_down fits u (Resumes false) down enabled = without_down u (Resumes false) down refl (resume_goes net w u false down enabled c (λ e. cc))
  start_down fits u (Interrupted made) down enabled = kept_down u (Interrupted made) down refl (saved_interrupted u made)
  start_down fits u NoMemory down enabled = kept_down u NoMemory down refl refl
  start_down fits u Foreign down enabled = kept_down u Foreign down refl refl

  start_here : DoubtsFit net w → (u : ℕ) (r : Recovery) → is_enabled net w (Start u r) ≡ true → Given net w (Start u r) u
  start_here fits u r enabled = elim (w.up u) as (λ t. w.up u ≡ t → Given net w (Start u r) u) [
    | true ↦ λ up. quiet_up_given net w (Start u r) u up (start_up u r up)
    | false ↦ λ down. start_down fits u r down enabled
  ] refl

  start_given : DoubtsFit net w → (u : ℕ) (r : Recovery) → is_enabled net w (Start u r) ≡ true → (v : ℕ) → Given net w (Start u r) v
  start_given fits u r enabled v = elim (u == v) as (λ t. (u == v) ≡ t → Given net w (Start u r) v) [
    | true ↦ λ e. subst (Given net w (Start u r)) (eq_from u v e) (start_here fits u r enabled)
    | false ↦ λ e. quiet_given net w (Start u r) v
        (start_there u r v (λ is. let same : (u == v) ≡ true = ap (λ (n : ℕ). u == n) is ∙ eq_same u in cc)) (found_there u r v e)
  ] refl

  -- Lemmas on all other actions.

  still_durable : (after : World) (v : ℕ) → after.journal v ≡ w.journal v → after.durable ≡ w.durable → Quiet net w after v
  still_durable after v journal same =
      quiet net w after v journal
      (saved_same net v w after (subst (λ d. Extends net.site v w.durable d) (sym same) (extends_same net.site v w.durable)) (ap (λ (d : Durable). d.acked v) same)
      (ap (λ (d : Durable). d.closed v) same) (ap (λ (d : Durable). handed_at net.site v d.handed) same))

  crash_quiet : (u v : ℕ) → Quiet net w (crash w u).0 v
  crash_quiet u v = by_test (λ (x : World × Outcome). Quiet net w x.0 v) (w.up u) _ _ (λ up. still_durable _ v refl refl) (λ down. quiet_same net w v)

  put_quiet : (l : Lane) (environment : Environment) (o : Option Outgoing) (v : ℕ) → Quiet net w (transmit_one net w l environment o).0 v
  put_quiet l environment None v = quiet_same net w v
  put_quiet l environment (Some o) v = by_test (λ (x : World × Outcome). Quiet net w x.0 v) (is_no_memory environment || is_io_fault environment) _ _
      (λ e. still_durable _ v refl refl) (λ e. still_durable _ v refl refl)

  transmit_quiet : (l : Lane) (j : ℕ) (environment : Environment) (v : ℕ) → Quiet net w (transmit net w l j environment).0 v
  unfolding transmit
  transmit_quiet l j environment v = put_quiet l environment (outgoing_of j (w.outgoing l)) v

  allocate_quiet : (t : Transmission) (v : ℕ) → Quiet net w (allocate w t).0 v
  unfolding allocate
  allocate_quiet t v = quiet net w _ v refl (saved_same net v w _ (extends_same net.site v w.durable) refl refl refl)

  pub step_given : DoubtsFit net w → (a : Action) → is_enabled net w a ≡ true → (v : ℕ) → Given net w a v
  unfolding step
  step_given fits (Start u r) may v = start_given fits u r may v
  step_given fits (Crash u) may v = quiet_given net w (Crash u) v (crash_quiet u v) refl
  step_given fits (Arm u fault) may v = quiet_given net w (Arm u fault) v (quiet_same net w v) refl
  step_given fits (SetLink link up) may v = quiet_given net w (SetLink link up) v (still_durable _ v refl refl) refl
  step_given fits (TakeBlock u link environment) may v =
      made_given net w (TakeBlock u link environment) v refl (block_made net w network c v u link environment (incident_is net w network c u link environment may))
  step_given fits (Ask u event environment) may v =
      made_given net w (Ask u event environment) v refl (handle_made net w network c v u event environment (asked_effect net w network c u event environment may))
  step_given fits (Allocate t) may v = quiet_given net w (Allocate t) v (allocate_quiet t v) refl
  step_given fits (Transmit l j environment) may v = quiet_given net w (Transmit l j environment) v (transmit_quiet l j environment v) refl
  step_given fits (Complete u) may v = quiet_given net w (Complete u) v (note_quiet net w network c v u) refl
  step_given fits (Deliver l number environment) may v = made_given net w (Deliver l number environment) v refl (deliver_made net w network c v l environment number)
  step_given fits (Flip l number bit environment) may v = made_given net w (Flip l number bit environment) v refl (flip_made net w network c v l environment number bit)
  step_given fits (Forge l octets environment) may v = made_given net w (Forge l octets environment) v refl (tampered_made net w network c v l environment octets)
