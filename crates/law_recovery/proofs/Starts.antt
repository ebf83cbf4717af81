-- What each answer to a start makes of its node.
use Rattle.std.proofs.Common.{◌≡◌, ℕ, Bool, true, refl, ap, ◌∙◌, Some, None}
use Rattle.std.specs.Prelude.{◌&&◌, not, nat_lt, if◌then◌else◌}
use Rattle.std.proofs.lemmas.Bool.{lt-ltb}
use Rattle.net_model.specs.World.{Network, World, Journal, InDoubt}
use Rattle.net_model.specs.View.{View}
use Rattle.net_model.specs.Needed.{view_of}
use Rattle.net_model.specs.Journal.{checkpoint_need, checkpointed, recovered_journal, is_blank, is_checkpoint_due}
use Rattle.net_model.specs.Fold.{view_restarted}
use Rattle.net_model.specs.Start.{resolved, resolved_journal, restarted, recovers, start, interrupted_start, may_recover, may_resolve, may_checkpoint, need_at, is_plain}
use Rattle.net_model.specs.Action.{Recovery, Start, Recovers, Resumes, Interrupted, NoMemory, Foreign, Outcome, Started, WasUp, StartMemory, ForeignAt}
use Rattle.net_model.specs.Step.{step, is_enabled, is_quiet, is_node, IsStep}
use Rattle.law_base.proofs.Base.{number_set_same, and_both, when_false}
use Rattle.law_recovery.proofs.Starting.{start_goes, resume_goes}
use Rattle.law_recovery.proofs.Restarting.{restarted_twice}
use Rattle.law_recovery.proofs.Checkpoint.{same_need}
use Rattle.law_recovery.proofs.Runs.{start_needs, resume_needs}
use Rattle.law_recovery.specs.Starting.{resolved_view, MayCheckpoint, checkpoint_of, MayStart, Starts, Stops}
use Rattle.law_recovery.proofs.Journals.{made_is, doubt_is, resumed_is}

module _ (net : Network) (w : World) (v : ℕ) (m : MayStart net w v) where
  says : (recovery : Recovery) → step net w (Start v recovery) ≡ recovers net w v recovery
  unfolding step start
  says recovery = when_false (w.up v) (w, WasUp) (recovers net w v recovery) m.down

  enabled : (recovery : Recovery) → may_recover net w v recovery ≡ true → is_enabled net w (Start v recovery) ≡ true
  unfolding is_enabled
  enabled recovery may =
      let asked : Bool = is_quiet net w v && may_recover net w v recovery in
      and_both (is_node net v) (if w.up v then is_plain recovery else asked) (lt-ltb v net.site.nodes m.node)
      (when_false (w.up v) (is_plain recovery) asked m.down ∙ and_both (is_quiet net w v) (may_recover net w v recovery) m.quiet may)

  happens : (recovery : Recovery) → may_recover net w v recovery ≡ true → IsStep net w (Start v recovery)
  happens recovery may = and_both (is_enabled net w (Start v recovery)) true (enabled recovery may) refl

  -- The manager is up in a world whose journal and checkpoint size are known.
  module _ (recovery : Recovery) (committed : Bool) (before : World) (journal : Journal) where
    abbrev after : World
    after = (step net w (Start v recovery)).0

    abbrev view : View
    view = resolved_view net w v committed

    starts : may_recover net w v recovery ≡ true → recovers net w v recovery ≡ (restarted net before v, Started) → before.journal v ≡ journal → before.drawn v ≡ w.drawn v →
        view_of net after v ≡ view_restarted view → need_at net before v ≡ checkpoint_need (view_of net after v) → Starts net w v recovery journal view
    unfolding restarted
    starts may is read drawn sees needs =
        let made : step net w (Start v recovery) ≡ (restarted net before v, Started) = says recovery ∙ is in
        let need : need_at net before v ≡ checkpoint_need view = needs ∙ ap checkpoint_need sees ∙ same_need (view_restarted view) view (restarted_twice view) in
        record {
          may = happens recovery may;
          said = ap (λ (r : World × Outcome). r.1) made;
          up = ap (λ (r : World × Outcome). r.0.up v) made ∙ number_set_same before.up v true;
          sees = sees;
          journal' = ap (λ (r : World × Outcome). r.0.journal v) made
              ∙ number_set_same before.journal v (recovered_journal (before.journal v) (need_at net before v))
              ∙ (λ i. recovered_journal (read i) (need i));
          drawn = ap (λ (r : World × Outcome). r.0.drawn v) made ∙ drawn;
        }

  pub reads_back : (committed : Bool) → may_resolve (w.in_doubt v) committed ≡ true → Starts net w v (Recovers committed) (resolved_journal w v committed) (resolved_view net w v committed)
  unfolding may_recover
  reads_back committed may =
      let on = enabled (Recovers committed) may in
      starts (Recovers committed) committed (resolved net.site w v committed) (resolved_journal w v committed) may refl
      (number_set_same w.journal v (resolved_journal w v committed)) refl
      (start_goes net w v committed m.down on m.conserved (λ e. m.fits))
      (start_needs net w v committed m.conserved m.down on)

  -- The checkpoint has the size that the manager computes for it.
  needs_seen : (committed : Bool) → may_resolve (w.in_doubt v) committed ≡ true → need_at net (resolved net.site w v committed) v ≡ checkpoint_need (resolved_view net w v committed)
  unfolding may_recover
  needs_seen committed may =
      let on = enabled (Recovers committed) may in
      let view : View = resolved_view net w v committed in
      start_needs net w v committed m.conserved m.down on
      ∙ ap checkpoint_need (start_goes net w v committed m.down on m.conserved (λ e. m.fits))
      ∙ same_need (view_restarted view) view (restarted_twice view)

  -- The checkpoint is made where it is due.
  may_check : (committed : Bool) → MayCheckpoint net w v committed → may_checkpoint net w v committed ≡ true
  may_check committed k =
      let journal : Journal = resolved_journal w v committed in
      let read = number_set_same w.journal v journal in
      let need = needs_seen committed k.may in
      and_both (not (is_blank (w.journal v))) (is_checkpoint_due ((resolved net.site w v committed).journal v) (need_at net (resolved net.site w v committed) v))
      (ap (λ (b : Bool). not b) k.started) ((λ i. is_checkpoint_due (read i) (need i)) ∙ k.due)

  module _ (committed : Bool) (stopped : w.interrupted v ≡ true) (k : MayCheckpoint net w v committed) where
    may_resume : may_recover net w v (Resumes committed) ≡ true
    unfolding may_recover
    may_resume = and_both (w.interrupted v && may_resolve (w.in_doubt v) committed) (may_checkpoint net w v committed) (and_both (w.interrupted v) (may_resolve (w.in_doubt v) committed) stopped k.may) (may_check committed k)

    pub finds : Starts net w v (Resumes committed) (checkpoint_of net w v committed) (resolved_view net w v committed)
    finds =
        let on = enabled (Resumes committed) may_resume in
        starts (Resumes committed) committed (resolved net.site (interrupted_start net w v (Some committed)) v committed) (checkpoint_of net w v committed) may_resume refl
        (number_set_same (interrupted_start net w v (Some committed)).journal v _ ∙ resumed_is net w v committed ∙ ap (checkpointed (resolved_journal w v committed)) (needs_seen committed k.may)) refl
        (resume_goes net w v committed m.down on m.conserved (λ e. m.fits))
        (resume_needs net w v committed m.conserved m.down on)

  -- Lemmas on a start that is interrupted.

  pub unsettled : Stops net w v (Interrupted None)
  unfolding may_recover view_of
  unsettled =
      let is = says (Interrupted None) in
      record {
        may = happens (Interrupted None) refl;
        said = ap (λ (r : World × Outcome). r.1) is;
        down = ap (λ (r : World × Outcome). r.0.up v) is ∙ m.down;
        sees = ap (λ (r : World × Outcome). view_of net r.0 v) is;
        doubt = ap (λ (r : World × Outcome). (r.0.in_doubt v).batch) is;
        drawn = ap (λ (r : World × Outcome). r.0.drawn v) is;
      }

  pub unsettled_rest : ((step net w (Start v (Interrupted None))).0.journal v ≡ w.journal v) × ((step net w (Start v (Interrupted None))).0.in_doubt v ≡ w.in_doubt v) ×
      ((step net w (Start v (Interrupted None))).0.interrupted v ≡ true)
  unsettled_rest =
      let is = says (Interrupted None) in (
        ap (λ (r : World × Outcome). r.0.journal v) is,
        ap (λ (r : World × Outcome). r.0.in_doubt v) is,
        ap (λ (r : World × Outcome). r.0.interrupted v) is ∙ number_set_same w.interrupted v true,
      )

  module _ (committed : Bool) (k : MayCheckpoint net w v committed) where
    may_settle : may_recover net w v (Interrupted (Some committed)) ≡ true
    unfolding may_recover
    may_settle = and_both (may_resolve (w.in_doubt v) committed) (may_checkpoint net w v committed) k.may (may_check committed k)

    pub settled : Stops net w v (Interrupted (Some committed))
    unfolding view_of
    settled =
        let is = says (Interrupted (Some committed)) in
        record {
          may = happens (Interrupted (Some committed)) may_settle;
          said = ap (λ (r : World × Outcome). r.1) is;
          down = ap (λ (r : World × Outcome). r.0.up v) is ∙ m.down;
          sees = ap (λ (r : World × Outcome). view_of net r.0 v) is;
          doubt = ap (λ (r : World × Outcome). (r.0.in_doubt v).batch) is ∙ ap (λ (d : InDoubt). d.batch) (doubt_is net w v committed);
          drawn = ap (λ (r : World × Outcome). r.0.drawn v) is;
        }

    pub settled_rest : ((step net w (Start v (Interrupted (Some committed)))).0.journal v ≡ checkpoint_of net w v committed) ×
        ((step net w (Start v (Interrupted (Some committed)))).0.in_doubt v ≡ record (w.in_doubt v) { checkpointed = Some committed }) ×
        ((step net w (Start v (Interrupted (Some committed)))).0.interrupted v ≡ w.interrupted v)
    settled_rest =
        let is = says (Interrupted (Some committed)) in (
          ap (λ (r : World × Outcome). r.0.journal v) is ∙ made_is net w v committed ∙ ap (checkpointed (resolved_journal w v committed)) (needs_seen committed k.may),
          ap (λ (r : World × Outcome). r.0.in_doubt v) is ∙ doubt_is net w v committed,
          ap (λ (r : World × Outcome). r.0.interrupted v) is,
        )

  -- Lemmas on a start that refuses.

  pub wants_memory : IsStep net w (Start v NoMemory) × (step net w (Start v NoMemory) ≡ (w, StartMemory))
  unfolding may_recover
  wants_memory = (happens NoMemory refl, says NoMemory)

  pub is_foreign : is_blank (w.journal v) ≡ true → w.interrupted v ≡ true → IsStep net w (Start v Foreign) × (step net w (Start v Foreign) ≡ (w, ForeignAt 16))
  unfolding may_recover
  is_foreign blank stopped = (happens Foreign (and_both (is_blank (w.journal v)) (w.interrupted v) blank stopped), says Foreign)
