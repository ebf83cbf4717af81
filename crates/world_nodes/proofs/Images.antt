-- If a node keeps its view, its journal and its doubt, an image that its start may find stays one.
use Rattle.std.proofs.Common.{◌≡◌, ◌⊎◌, inl, inr, ℕ, Bool, true, List, [], ◌∷◌, ◌++◌, sym, ap, subst, ◌∙◌}
use Rattle.std.specs.Prelude.{◌&&◌, is_none, if◌then◌else◌}
use Rattle.net_model.specs.World.{Network, World, Journal, InDoubt}
use Rattle.net_model.specs.View.{View}
use Rattle.net_model.specs.Needed.{view_of}
use Rattle.net_model.specs.Journal.{added_len, is_blank, new_journal, extended, checkpointed, checkpoint_need, is_checkpoint_due}
use Rattle.net_model.specs.Fold.{view_batch}
use Rattle.net_model.specs.Start.{may_resolve, resolved_journal}
use Rattle.law_recovery.specs.Fitting.{AllFit}
use Rattle.law_recovery.specs.Starting.{resolved_view, MayCheckpoint}
use Rattle.law_recovery.specs.GivesBack.{GivesBack}
use Rattle.journal_snapshot.specs.declared.live.Live.{Live}
use Rattle.range_journal.specs.Header.{new_header}
use Rattle.world_nodes.specs.Stands.{HasStory, IsBehind, HoldsJournal, HoldsCheckpoint, MayFind, IsUnused, HoldsNothing}

-- the journal that a start reads, with the batch in doubt or without it
abbrev pub journal_read : Journal → InDoubt → Bool → Journal
journal_read j d committed = if is_blank j then new_journal else extended j (if committed && is_none d.checkpointed then added_len j.version d.batch else 0)

module _ (net : Network) (w w' : World) (v : ℕ) (journal : w'.journal v ≡ w.journal v) (in_doubt : w'.in_doubt v ≡ w.in_doubt v) (view : view_of net w' v ≡ view_of net w v)
    (interrupted : w.interrupted v ≡ true → w'.interrupted v ≡ true) where
  same_journal : (committed : Bool) → resolved_journal w' v committed ≡ resolved_journal w v committed
  same_journal committed = λ i. journal_read (journal i) (in_doubt i) committed

  same_view : (committed : Bool) → resolved_view net w' v committed ≡ resolved_view net w v committed
  same_view committed = λ i. if committed then view_batch (view i) (in_doubt i).batch else view i

  behind_on : (live : Live) (bodies doubt : List (List ℕ)) (committed : Bool) → (doubt ≡ []) ⊎ IsBehind net w v live bodies doubt committed → (doubt ≡ []) ⊎ IsBehind net w' v live bodies doubt committed
  behind_on live bodies doubt committed (inl none) = inl none
  behind_on live bodies doubt committed (inr b) = inr (record {
    body = b.body;
    is = b.is;
    unmade = b.unmade;
    may = ap (λ (d : InDoubt). may_resolve d true) in_doubt ∙ b.may;
    journaled = b.journaled ∙ sym (same_journal true);
    told = subst (λ (a : View). HasStory net.site v live.version (bodies ++ b.body ∷ []) a) (sym (same_view true)) b.told;
  })

  pub journal_on : (i : List ℕ) → HoldsJournal net w v i → HoldsJournal net w' v i
  journal_on i h = record {
    started = ap is_blank journal ∙ h.started;
    plain = h.plain;
    committed = h.committed;
    may = ap (λ (d : InDoubt). may_resolve d h.committed) in_doubt ∙ h.may;
    live = h.live;
    bodies = h.bodies;
    doubt = h.doubt;
    holds = h.holds;
    journaled = h.journaled ∙ sym (same_journal h.committed);
    told = subst (λ (a : View). HasStory net.site v h.live.version h.bodies a) (sym (same_view h.committed)) h.told;
    behind = behind_on h.live h.bodies h.doubt h.committed h.behind;
  }

  due_on : (committed : Bool) → MayCheckpoint net w v committed → MayCheckpoint net w' v committed
  due_on committed k = record {
    may = ap (λ (d : InDoubt). may_resolve d committed) in_doubt ∙ k.may;
    started = ap is_blank journal ∙ k.started;
    due = (λ i. is_checkpoint_due (same_journal committed i) (checkpoint_need (same_view committed i))) ∙ k.due;
  }

  checkpoint_on : (i : List ℕ) → HoldsCheckpoint net w v i → HoldsCheckpoint net w' v i
  checkpoint_on i h = record {
    stopped = interrupted h.stopped;
    committed = h.committed;
    may = due_on h.committed h.may;
    live = h.live;
    bodies = h.bodies;
    holds = h.holds;
    journaled = h.journaled ∙ sym (λ i. checkpointed (same_journal h.committed i) (checkpoint_need (same_view h.committed i)));
    told = subst (λ (a : View). HasStory net.site v h.live.version h.bodies a) (sym (same_view h.committed)) h.told;
  }

  unused_on : (i : List ℕ) → IsUnused i ⊎ ((w.interrupted v ≡ true) × ((gate : ℕ) × (i ≡ new_header ++ gate ∷ []))) → IsUnused i ⊎ ((w'.interrupted v ≡ true) × ((gate : ℕ) × (i ≡ new_header ++ gate ∷ [])))
  unused_on i (inl unused) = inl unused
  unused_on i (inr h) = inr (interrupted h.0, h.1)

  pub nothing_on : (i : List ℕ) → HoldsNothing net w v i → HoldsNothing net w' v i
  nothing_on i h = record {
    blank = ap is_blank journal ∙ h.blank;
    certain = in_doubt ∙ h.certain;
    empty = subst (λ (a : View). GivesBack net.site v [] a) (sym view) h.empty;
    unused = unused_on i h.unused;
  }

  pub image_on : (i : List ℕ) → MayFind net w v i → MayFind net w' v i
  image_on i (inl h) = inl (journal_on i h)
  image_on i (inr (inl h)) = inr (inl (checkpoint_on i h))
  image_on i (inr (inr h)) = inr (inr (nothing_on i h))

  pub fits_on : AllFit net (view_of net w v) (w.in_doubt v).batch → AllFit net (view_of net w' v) (w'.in_doubt v).batch
  fits_on fits = subst (λ (x : View × InDoubt). AllFit net x.0 x.1.batch) (λ i. (sym view i, sym in_doubt i)) fits
