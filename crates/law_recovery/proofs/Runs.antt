-- In every run each batch in doubt fits, and each manager has a journal that gives it back.
use Rattle.std.proofs.Common.{◌≡◌, ℕ, Bool, true, false, List, [], ◌∷◌, ◌++◌, sym, ◌∙◌, ap, subst, Some, inl, inr}
use Rattle.std.specs.Prelude.{if◌then◌else◌}
use Rattle.net_model.specs.declared.record.Record.{Record}
use Rattle.net_model.specs.Premises.{IsNetwork}
use Rattle.net_model.specs.World.{Network, World, first}
use Rattle.net_model.specs.View.{View}
use Rattle.net_model.specs.Needed.{view_of}
use Rattle.net_model.specs.Invariant.{Conserved}
use Rattle.net_model.specs.Journal.{checkpoint_batches, checkpoint_need}
use Rattle.net_model.specs.Start.{need_at, resolved, interrupted_start}
use Rattle.net_model.specs.Fold.{view_batch, view_restarted}
use Rattle.net_model.specs.Action.{Action, Start, Recovers, Resumes, is_shown, environment_of}
use Rattle.net_model.specs.Step.{step, is_enabled, is_step, IsStep, run, is_run, IsRun}
use Rattle.law_base.proofs.Base.{and_left, and_right}
use Rattle.law_base.proofs.Resuming.{resolved_view}
use Rattle.law_recovery.specs.Fitting.{AllFit}
use Rattle.law_recovery.proofs.Empty.{first_empty}
use Rattle.law_recovery.proofs.Starting.{start_goes, start_restarts, resume_goes, resume_restarts}
use Rattle.law_invariant.proofs.Steps.{step_keeps}
use Rattle.law_recovery.specs.GivesBack.{GivesBack}
use Rattle.law_recovery.proofs.Restarting.{restarted_twice, recovered_next, nothing_given, recovered_restarts}
use Rattle.law_recovery.proofs.Checkpoint.{checkpoint_given, same_need}
use Rattle.law_recovery.specs.Saved.{saved, Moves, DoubtsFit}
use Rattle.law_recovery.proofs.Views.{restarted_fits, fits_before}
use Rattle.law_recovery.proofs.Steps.{step_moves}

-- Some journal gives back the manager of node v.
abbrev pub HasJournal : Network → World → ℕ → Type 0
HasJournal net w v = (batches : List (List Record)) × GivesBack net.site v batches (view_of net w v)

module _ (net : Network) (w after : World) (v : ℕ) where
  moved_fits : Moves net w after v → AllFit net (saved net w v) (w.in_doubt v).batch → AllFit net (saved net after v) (after.in_doubt v).batch
  moved_fits (inl s) h = subst (AllFit net (saved net after v)) (sym s.doubt) (subst (λ (a : View). AllFit net a (w.in_doubt v).batch) (sym s.view) h)
  moved_fits (inr (inl d)) h = d.fits
  moved_fits (inr (inr a)) h = subst (AllFit net (saved net after v)) (sym a.none) tt

  moved_given : Moves net w after v → HasJournal net w v → HasJournal net after v
  moved_given (inl s) h = (h.0, h.1 ∙ sym s.view)
  moved_given (inr (inl d)) h = (h.0, h.1 ∙ sym d.view)
  moved_given (inr (inr a)) h =
      (h.0 ++ a.batch ∷ [], recovered_next net.site v h.0 a.batch ∙ ap (λ (x : View). view_restarted (view_batch x a.batch)) h.1 ∙ sym a.view)

pub first_fits : (net : Network) → DoubtsFit net first
unfolding first
first_fits net v = tt

pub step_fits : (net : Network) (w : World) (a : Action) → IsNetwork net → Conserved net w → DoubtsFit net w → is_enabled net w a ≡ true → DoubtsFit net (step net w a).0
step_fits net w a network c fits may v =
    let after : World = (step net w a).0 in
    fits_before net (after.in_doubt v).batch (view_of net after v)
    (moved_fits net w after v (step_moves net w network c fits a may v) (restarted_fits net (w.in_doubt v).batch (view_of net w v) (fits v)))

pub first_given : (net : Network) (v : ℕ) → GivesBack net.site v [] (view_of net first v)
first_given net v = recovered_restarts net.site v [] ∙ ap view_restarted (nothing_given net.site v ∙ sym (first_empty net v))

-- What holds of every world of a run.
pub record IsHeld (net : Network) (w : World) : Type 0 where
  pub conserved : Conserved net w
  pub fits : DoubtsFit net w

module _ (net : Network) (network : IsNetwork net) where
  step_held : (w : World) (a : Action) → IsHeld net w → IsStep net w a → IsHeld net (step net w a).0
  step_held w a h may = record {
    conserved = step_keeps net w a network may h.conserved;
    fits = step_fits net w a network h.conserved h.fits (and_left (is_enabled net w a) (is_shown (environment_of a) (step net w a).1) may);
  }

  pub run_held : (actions : List Action) (w : World) → IsHeld net w → IsRun net w actions → IsHeld net (run net w actions)
  unfolding run is_run
  run_held [] w h r = h
  run_held (a ∷ actions) w h r =
      let after : World = (step net w a).0 in
      run_held actions after (step_held w a h (and_left (is_step net w a) (is_run net after actions) r)) (and_right (is_step net w a) (is_run net after actions) r)

  pub run_given : (v : ℕ) (actions : List Action) (w : World) → IsHeld net w → HasJournal net w v → IsRun net w actions → HasJournal net (run net w actions) v
  unfolding run is_run
  run_given v [] w h given r = given
  run_given v (a ∷ actions) w h given r =
      let one = and_left (is_step net w a) (is_run net (step net w a).0 actions) r in
      let may = and_left (is_enabled net w a) (is_shown (environment_of a) (step net w a).1) one in
      let after : World = (step net w a).0 in
      run_given v actions after (step_held w a h one) (moved_given net w after v (step_moves net w network h.conserved h.fits a may v) given)
      (and_right (is_step net w a) (is_run net after actions) r)

  module _ (w : World) (actions : List Action) (v : ℕ) (h : IsHeld net w) (r : IsRun net w actions) where
    abbrev last : World
    last = run net w actions

    pub run_starts : (committed : Bool) → last.up v ≡ false → is_enabled net last (Start v (Recovers committed)) ≡ true →
        view_of net (step net last (Start v (Recovers committed))).0 v ≡
        view_restarted (if committed then view_batch (view_of net last v) (last.in_doubt v).batch else view_of net last v)
    run_starts committed down enabled = let k = run_held actions w h r in start_goes net last v committed down enabled k.conserved (λ e. k.fits v)

    pub run_resumes : (committed : Bool) → last.up v ≡ false → is_enabled net last (Start v (Resumes committed)) ≡ true →
        view_of net (step net last (Start v (Resumes committed))).0 v ≡
        view_restarted (if committed then view_batch (view_of net last v) (last.in_doubt v).batch else view_of net last v)
    run_resumes committed down enabled = let k = run_held actions w h r in resume_goes net last v committed down enabled k.conserved (λ e. k.fits v)

    pub run_checkpoint : HasJournal net w v → GivesBack net.site v (checkpoint_batches (view_of net last v)) (view_of net last v)
    run_checkpoint given = let k = run_given v actions w h given r in checkpoint_given net.site v k.0 (view_of net last v) k.1

-- The checkpoint that a start makes has the size that the started manager computes.
pub start_needs : (net : Network) (w : World) (v : ℕ) (committed : Bool) → Conserved net w → w.up v ≡ false → is_enabled net w (Start v (Recovers committed)) ≡ true →
    need_at net (resolved net.site w v committed) v ≡ checkpoint_need (view_of net (step net w (Start v (Recovers committed))).0 v)
start_needs net w v committed c down enabled =
    let before : View = view_of net (resolved net.site w v committed) v in
    same_need before (view_of net (step net w (Start v (Recovers committed))).0 v)
    (sym (restarted_twice before) ∙ ap view_restarted (sym (start_restarts net w v committed down enabled c)))

-- If a start finds the checkpoint of an interrupted one, both checkpoints have the size that the started manager
-- computes.
module _ (net : Network) (w : World) (v : ℕ) (committed : Bool) (c : Conserved net w) (down : w.up v ≡ false) (enabled : is_enabled net w (Start v (Resumes committed)) ≡ true) where
  pub found_needs : need_at net (resolved net.site w v committed) v ≡ checkpoint_need (view_of net (step net w (Start v (Resumes committed))).0 v)
  found_needs =
      let before : View = view_of net (resolved net.site w v committed) v in
      same_need before (view_of net (step net w (Start v (Resumes committed))).0 v)
      (sym (restarted_twice before) ∙ ap view_restarted (sym (resume_restarts net w v committed down enabled c)))

  pub resume_needs : need_at net (resolved net.site (interrupted_start net w v (Some committed)) v committed) v ≡
      checkpoint_need (view_of net (step net w (Start v (Resumes committed))).0 v)
  resume_needs = ap checkpoint_need (resolved_view net w v committed v) ∙ found_needs
