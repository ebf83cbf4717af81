-- What an effect does to a post and to its node.
use Rattle.std.proofs.Common.{◌≡◌, ◌⊎◌, inl, inr, ℕ, ◌+◌, Bool, true, false, not, IsTrue, List, [], ◌∷◌, ◌++◌, refl, sym, ap, subst, ◌∙◌, arith}
use Rattle.std.specs.Prelude.{Option, Some, None}
use Rattle.net_model.specs.declared.record.Record.{Record}
use Rattle.net_model.specs.World.{Network, World, Journal, InDoubt, no_volatile}
use Rattle.net_model.specs.View.{View}
use Rattle.net_model.specs.Needed.{view_of}
use Rattle.net_model.specs.Journal.{added_len, is_blank, extended}
use Rattle.net_model.specs.Decision.{Effect}
use Rattle.net_model.specs.Fold.{view_after, view_batch}
use Rattle.net_model.specs.Handle.{commit, stopped}
use Rattle.net_model.specs.Start.{may_resolve, resolved_journal}
use Rattle.declared_site.specs.SiteOf.{site_of}
use Rattle.declared_site.specs.declared.site.Site.{Site as Declared}
use Rattle.range_journal.specs.Header.{is_blank as is_blank_disk}
use Rattle.journal_snapshot.specs.declared.live.Live.{Live}
use Rattle.journal_snapshot.specs.Standing.{Holds}
use Rattle.journal_snapshot.specs.Snapshots.{SnapshotForm}
use Rattle.law_base.proofs.Base.{number_set_same}
use Rattle.law_recovery.specs.Fitting.{AllFit}
use Rattle.law_recovery.proofs.Doubtful.{stopped_view, doubt_fits}
use Rattle.kme_store.specs.Passed.{with_batch, batch_in_doubt, IsBody, IsSpelling}
use Rattle.kme_store.proofs.Passed.{body_written, body_with, body_in_doubt}
use Rattle.kme_store.specs.Manager.{Writes, IsAdded, HasBodyIn}
use Rattle.law_recovery.specs.Starting.{resolved_view}
use Rattle.world_nodes.specs.LaneStands.{IsRunning}
use Rattle.world_nodes.specs.Stands.{HasStory, UpStands, journal_with, IsBehind, HoldsJournal, DownStands}
use Rattle.world_nodes.proofs.Images.{journal_read}
use Rattle.world_nodes.proofs.Stories.{effect_told, batch_told, life_told, journal_more, read_without, read_with}
use Rattle.disk_model.specs.declared.disk.Disk as Disk

-- what an effect changes of a node

pub commit_drawn : (net : Network) (w : World) (v octets : ℕ) (e : Effect) → (commit net.site w v octets e).drawn v ≡ w.drawn v + octets
unfolding commit
commit_drawn net w v octets e = number_set_same w.drawn v (w.drawn v + octets)

commit_journal : (net : Network) (w : World) (v octets : ℕ) (e : Effect) → (commit net.site w v octets e).journal v ≡ extended (w.journal v) (added_len (w.journal v).version e.batch)
unfolding commit
commit_journal net w v octets e = number_set_same w.journal v (extended (w.journal v) (added_len (w.journal v).version e.batch))

commit_up : (net : Network) (w : World) (v octets : ℕ) (e : Effect) → (commit net.site w v octets e).up v ≡ w.up v
unfolding commit
commit_up net w v octets e = refl

stopped_up : (w : World) (v octets : ℕ) (e : Effect) → (stopped w v octets e).up v ≡ false
unfolding stopped
stopped_up w v octets e = number_set_same w.up v false

pub stopped_drawn : (w : World) (v octets : ℕ) (e : Effect) → (stopped w v octets e).drawn v ≡ w.drawn v + octets
unfolding stopped
stopped_drawn w v octets e = number_set_same w.drawn v (w.drawn v + octets)

stopped_journal : (w : World) (v octets : ℕ) (e : Effect) → (stopped w v octets e).journal v ≡ w.journal v
unfolding stopped
stopped_journal w v octets e = refl

stopped_doubt : (w : World) (v octets : ℕ) (e : Effect) → (stopped w v octets e).in_doubt v ≡ record { batch = e.batch; checkpointed = None }
unfolding stopped
stopped_doubt w v octets e = number_set_same w.in_doubt v (record { batch = e.batch; checkpointed = None })

module _ {K : Type 0} (disk_says : Disk.Ghosts K) (net : Network) (w : World) (v : ℕ) (r : IsRunning net w) where
  module _ (site : Declared) (view : View) (journal : SnapshotForm K) (u : UpStands disk_says net w v site view journal) where
    -- The manager stays up with the same journal.

    pub kept_up : (site' : Declared) (view' : View) (j : SnapshotForm K) → site' ≡ site → view' ≡ view → j.live ≡ journal.live → j.batches ≡ journal.batches → disk_says.is_honest j.disk ≡ disk_says.is_honest journal.disk →
        UpStands disk_says net w v site' view' j
    kept_up site' view' j same_site same_view live batches honest = record {
      up = u.up;
      sited = ap (λ (s : Declared). site_of s) same_site ∙ u.sited;
      sees = same_view ∙ u.sees;
      journaled = (λ i. journal_with (live i) (batches i)) ∙ u.journaled;
      honest = subst (λ (b : Bool). IsTrue b) (sym honest) u.honest;
      told = subst (λ (a : View). HasStory net.site v j.live.version j.batches a) (sym same_view)
          (subst (λ (l : Live). HasStory net.site v l.version j.batches view) (sym live)
          (subst (λ (bs : List (List ℕ)). HasStory net.site v journal.live.version bs view) (sym batches) u.told));
    }

    -- The effect takes place.

    pub gone_up : (octets : ℕ) (e : Effect) (site' : Declared) (view' : View) (j : SnapshotForm K) → site' ≡ site → view' ≡ view_after view e → IsAdded journal e.batch j → HasBodyIn journal.live.version e.batch →
        disk_says.is_honest j.disk ≡ disk_says.is_honest journal.disk → view_of net (commit net.site w v octets e) v ≡ view_after (view_of net w v) e → UpStands disk_says net (commit net.site w v octets e) v site' view' j
    gone_up octets e site' view' j same_site same_view a spelled honest goes = record {
      up = commit_up net w v octets e ∙ u.up;
      sited = ap (λ (s : Declared). site_of s) same_site ∙ u.sited;
      sees = same_view ∙ ap (λ (x : View). view_after x e) u.sees ∙ sym goes;
      journaled = a.journal ∙ ap (λ (x : Journal). extended x (added_len x.version e.batch)) u.journaled ∙ sym (commit_journal net w v octets e);
      honest = subst (λ (b : Bool). IsTrue b) (sym honest) u.honest;
      told = subst (λ (x : View). HasStory net.site v j.live.version j.batches x) (sym same_view)
          (subst (λ (l : Live). HasStory net.site v l.version j.batches (view_after view e)) (sym a.live)
          (subst (λ (bs : List (List ℕ)). HasStory net.site v journal.live.version bs (view_after view e)) (sym a.batches)
          (effect_told net.site v journal.live.version journal.batches view e spelled u.told)));
    }

    -- The disk fails during the effect.

    module _ (octets : ℕ) (e : Effect) where
      abbrev after : World
      after = stopped w v octets e

      seen : HasStory net.site v journal.live.version journal.batches (view_of net after v)
      seen = subst (λ (x : View). HasStory net.site v journal.live.version journal.batches x) (sym (stopped_view net w v octets e))
          (subst (λ (x : View). HasStory net.site v journal.live.version journal.batches (record x { volatile = no_volatile })) u.sees
          (life_told net.site v journal.live.version journal.batches view no_volatile u.told))

      plain : is_blank (w.journal v) ≡ false
      plain = r.conserved.started v u.up

      started : is_blank (after.journal v) ≡ false
      started = ap is_blank (stopped_journal w v octets e) ∙ plain

      in_doubt_now : after.in_doubt v ≡ record { batch = e.batch; checkpointed = None }
      in_doubt_now = stopped_doubt w v octets e

      abbrev version : ℕ
      version = journal.live.version

      -- The batch may be made durable.

      may_make : (body : List ℕ) → IsSpelling version e.batch body → may_resolve (after.in_doubt v) true ≡ true
      may_make body s = ap (λ (d : InDoubt). may_resolve d true) in_doubt_now ∙ ap (λ (b : Bool). not b) (body_written version e.batch body s)

      journal_made : (body : List ℕ) → IsSpelling version e.batch body → journal_with journal.live (with_batch version journal.batches e.batch) ≡ resolved_journal after v true
      journal_made body s =
          journal_more journal.live journal.batches e.batch (Some body) s
          ∙ ap (λ (x : Journal). extended x (added_len x.version e.batch)) (u.journaled ∙ sym (stopped_journal w v octets e))
          ∙ sym (read_with (after.journal v) e.batch started)
          ∙ ap (λ (d : InDoubt). journal_read (after.journal v) d true) (sym in_doubt_now)

      told_made : (body : List ℕ) → IsSpelling version e.batch body → HasStory net.site v version (with_batch version journal.batches e.batch) (resolved_view net after v true)
      told_made body s =
          subst (λ (b : List Record). HasStory net.site v version (with_batch version journal.batches e.batch) (view_batch (view_of net after v) b)) (ap (λ (d : InDoubt). d.batch) (sym in_doubt_now))
          (batch_told net.site v version journal.batches (view_of net after v) e.batch body s seen)

      -- the bodies after the old batches

      abbrev Behind : List (List ℕ) → Type 0
      Behind doubt = (doubt ≡ []) ⊎ IsBehind net after v journal.live journal.batches doubt false

      behind : (body : Option (List ℕ)) → IsBody version e.batch body → Behind (batch_in_doubt version e.batch)
      behind None none = inl (ap (λ (b : List Record). batch_in_doubt version b) none)
      behind (Some body) s =
          let with_it : journal.batches ++ body ∷ [] ≡ with_batch version journal.batches e.batch = body_with version journal.batches e.batch (Some body) s in
          inr (record {
            body = body;
            is = sym (body_in_doubt version e.batch (Some body) s);
            unmade = refl;
            may = may_make body s;
            journaled = ap (journal_with journal.live) with_it ∙ journal_made body s;
            told = subst (λ (bs : List (List ℕ)). HasStory net.site v version bs (resolved_view net after v true)) (sym with_it) (told_made body s);
          })

      without : (doubt : List (List ℕ)) → Behind doubt → (i : List ℕ) → is_blank_disk i ≡ false → Holds journal.live journal.batches doubt i → HoldsJournal net after v i
      without doubt behind i plain_disk holds = record {
        started = started;
        plain = plain_disk;
        committed = false;
        may = ap (λ (d : InDoubt). may_resolve d false) in_doubt_now;
        live = journal.live;
        bodies = journal.batches;
        doubt = doubt;
        holds = holds;
        journaled = u.journaled ∙ sym (stopped_journal w v octets e) ∙ sym (read_without (after.journal v) (after.in_doubt v) started);
        told = seen;
        behind = behind;
      }

      with' : (body : List ℕ) → IsSpelling version e.batch body → (i : List ℕ) → is_blank_disk i ≡ false → Holds journal.live (with_batch version journal.batches e.batch) [] i → HoldsJournal net after v i
      with' body s i plain_disk holds = record {
        started = started;
        plain = plain_disk;
        committed = true;
        may = may_make body s;
        live = journal.live;
        bodies = with_batch version journal.batches e.batch;
        doubt = [];
        holds = holds;
        journaled = journal_made body s;
        told = told_made body s;
        behind = inl refl;
      }

      one_more : (body : Option (List ℕ)) → IsBody version e.batch body → (i : List ℕ) → is_blank_disk i ≡ false → Holds journal.live (with_batch version journal.batches e.batch) [] i → HoldsJournal net after v i
      one_more None none i plain_disk holds = without [] (inl refl) i plain_disk (subst (λ (b : List Record). Holds journal.live (with_batch version journal.batches b) [] i) none holds)
      one_more (Some body) s i plain_disk holds = with' body s i plain_disk holds

      pub stopped_down : (disk : K) → Writes disk_says journal e.batch disk → HasBodyIn journal.live.version e.batch → disk_says.is_honest disk ≡ disk_says.is_honest journal.disk → AllFit net (view_of net w v) e.batch →
          DownStands disk_says net after v disk
      stopped_down disk writes spelled honest fits = record {
        fits = doubt_fits net w v octets e fits;
        down = stopped_up w v octets e;
        honest = subst (λ (b : Bool). IsTrue b) (sym honest) u.honest;
        images = λ i is. let either = writes.each (disk_says.moment disk) i writes.later (omega arith) is u.honest in
            inl (elim either.1 [
              | inl was ↦ without (batch_in_doubt version e.batch) (behind spelled.0 spelled.1) i either.0 was
              | inr more ↦ one_more spelled.0 spelled.1 i either.0 more
            ]);
      }
