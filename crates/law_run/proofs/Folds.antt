-- In every run, the batches that a node made give it back. Each list of batches that does so has the same meaning.
use Rattle.std.proofs.Common.{◌≡◌, ◌∙◌, ℕ, Bool, true, false, List, [], ◌∷◌, ◌++◌, refl, sym, ap, subst, append-nil, append_assoc}
use Rattle.net_model.specs.declared.record.Record.{Record}
use Rattle.net_model.specs.Premises.{IsNetwork}
use Rattle.net_model.specs.World.{Network, World}
use Rattle.net_model.specs.View.{View}
use Rattle.net_model.specs.Needed.{view_of}
use Rattle.net_model.specs.Invariant.{Conserved}
use Rattle.net_model.specs.Action.{Action, is_shown, environment_of}
use Rattle.net_model.specs.Start.{may_resolve}
use Rattle.net_model.specs.Step.{step, is_enabled, is_step, run, is_run, IsRun}
use Rattle.net_model.specs.Fold.{view_batch, view_batches, view_restarted, empty_view, recovered_view}
use Rattle.run_model.specs.Left.{none_or_one, batch_made, batches_made, with_doubt, IsFoldOf}
use Rattle.law_base.proofs.Base.{and_left, and_right}
use Rattle.law_invariant.proofs.Steps.{step_keeps}
use Rattle.law_recovery.specs.GivesBack.{GivesBack}
use Rattle.law_recovery.proofs.Restarting.{batch_restarts}
use Rattle.law_recovery.specs.Saved.{DoubtsFit}
use Rattle.law_recovery.proofs.Runs.{step_fits}
use Rattle.law_run.specs.Benched.{kept_view}
use Rattle.law_run.proofs.Made.{doubt_given}
use Rattle.law_run.proofs.Given.{step_given}

pub made_gives_back : (net : Network) → IsNetwork net → (v : ℕ) (actions : List Action) (w : World) → Conserved net w → DoubtsFit net w → IsRun net w actions → (batches : List (List Record)) →
    GivesBack net.site v batches (view_of net w v) → GivesBack net.site v (batches ++ batches_made net v w actions) (view_of net (run net w actions) v)
unfolding run is_run batches_made
made_gives_back net network v [] w c fits r batches h =
    subst (λ (bs : List (List Record)). GivesBack net.site v bs (view_of net w v)) (sym (append-nil batches)) h
made_gives_back net network v (a ∷ actions) w c fits r batches h =
    let one = and_left (is_step net w a) (is_run net (step net w a).0 actions) r in
    let may = and_left (is_enabled net w a) (is_shown (environment_of a) (step net w a).1) one in
    let after : World = (step net w a).0 in
    subst (λ (bs : List (List Record)). GivesBack net.site v bs (view_of net (run net after actions) v))
    (append_assoc batches (batch_made net w a v) (batches_made net v after actions))
    (made_gives_back net network v actions after (step_keeps net w a network one c) (step_fits net w a network c fits may) (and_right (is_step net w a) (is_run net after actions) r)
    (batches ++ batch_made net w a v) (step_given net w network c fits a may v batches h))

-- Batches have the same meaning over two views that a start makes alike.
batches_restart : (a b : View) (batches : List (List Record)) → view_restarted a ≡ view_restarted b → view_restarted (view_batches a batches) ≡ view_restarted (view_batches b batches)
batches_restart a b [] h = h
batches_restart a b (x ∷ xs) h =
    batches_restart (view_batch a x) (view_batch b x) xs (batch_restarts a x ∙ ap (λ (v : View). view_restarted (view_batch v x)) h ∙ sym (batch_restarts b x))

batches_append : (a : View) (xs ys : List (List Record)) → view_batches a (xs ++ ys) ≡ view_batches (view_batches a xs) ys
batches_append a [] ys = refl
batches_append a (x ∷ xs) ys = batches_append (view_batch a x) xs ys

-- Later batches go on from what the earlier ones give back.
recovered_over : (net : Network) (w : World) (v : ℕ) (before batches : List (List Record)) → GivesBack net.site v before (view_of net w v) →
    recovered_view net.site v (before ++ batches) ≡ view_restarted (view_batches (view_of net w v) batches)
unfolding recovered_view
recovered_over net w v before batches h =
    ap view_restarted (batches_append (empty_view net.site v) before batches) ∙ batches_restart (view_batches (empty_view net.site v) before) (view_of net w v) batches h

module _ (net : Network) (w : World) (actions : List Action) (v : ℕ) (before : List (List Record)) (network : IsNetwork net) (c : Conserved net w) (fits : DoubtsFit net w)
    (h : GivesBack net.site v before (view_of net w v)) (r : IsRun net w actions) where
  abbrev last : World
  last = run net w actions

  abbrev made : List (List Record)
  made = batches_made net v w actions

  all_give_back : GivesBack net.site v (before ++ made) (view_of net last v)
  all_give_back = made_gives_back net network v actions w c fits r before h

  -- The batches that the node made, with the one in doubt or without it, give it back.
  pub doubt_gives_back : (committed : Bool) → GivesBack net.site v (before ++ with_doubt committed (last.in_doubt v) made) (kept_view net last v committed)
  doubt_gives_back false = all_give_back
  doubt_gives_back true =
      subst (λ (bs : List (List Record)). GivesBack net.site v bs (kept_view net last v true)) (append_assoc before made (none_or_one (last.in_doubt v).batch))
      (doubt_given net.site v (before ++ made) (view_of net last v) (last.in_doubt v).batch all_give_back)

pub is_fold : (net : Network) (w : World) (actions : List Action) (v : ℕ) (before : List (List Record)) → IsNetwork net → Conserved net w → DoubtsFit net w →
    GivesBack net.site v before (view_of net w v) → IsRun net w actions → (committed : Bool) (batches : List (List Record)) →
    may_resolve ((run net w actions).in_doubt v) committed ≡ true → GivesBack net.site v batches (kept_view net (run net w actions) v committed) →
    IsFoldOf net w actions (run net w actions) v batches
is_fold net w actions v before network c fits h r committed batches may given = record {
  committed = committed;
  may = may;
  fold = given ∙ sym (doubt_gives_back net w actions v before network c fits h r committed) ∙
      recovered_over net w v before (with_doubt committed ((run net w actions).in_doubt v) (batches_made net v w actions)) h;
}

-- A fold of what the node saw gives back what it sees.
pub fold_gives_back : (net : Network) (w : World) (actions : List Action) (v : ℕ) (before : List (List Record)) → IsNetwork net → Conserved net w → DoubtsFit net w →
    GivesBack net.site v before (view_of net w v) → IsRun net w actions → (batches : List (List Record)) (f : IsFoldOf net w actions (run net w actions) v batches) →
    GivesBack net.site v batches (kept_view net (run net w actions) v f.committed)
fold_gives_back net w actions v before network c fits h r batches f =
    f.fold ∙ sym (recovered_over net w v before (with_doubt f.committed ((run net w actions).in_doubt v) (batches_made net v w actions)) h) ∙
    doubt_gives_back net w actions v before network c fits h r f.committed
