-- How an event changes a manager that is up, from the contract of each call of its handling.
use Rattle.std.proofs.Common.{◌≡◌, ℕ, ◌+◌, ◌≤◌, Bool, IsTrue, List, ◌++◌, length, take, replicate, refl, sym, ap, subst, ◌∙◌}
use Rattle.std.specs.Prelude.{IsSome, Option, Ok}
use Rattle.std.proofs.lemmas.List.{length-replicate}
use Rattle.std.proofs.Math.Seq.{take-append_seam}
use Rattle.qkd_base.specs.Faults.{Rose}
use Rattle.net_model.specs.declared.event.Event.{Event}
use Rattle.net_model.specs.declared.record.Record.{Record}
use Rattle.net_model.specs.declared.reply.Reply.{Reply}
use Rattle.net_model.specs.declared.reply.Reply.TheVariants as replies
use Rattle.net_model.specs.View.{View}
use Rattle.net_model.specs.Journal.{journal_limit}
use Rattle.net_model.specs.Decide.{decide, random_need}
use Rattle.declared_site.specs.SiteOf.{site_of}
use Rattle.declared_site.specs.declared.site.Site.{Site as Declared}
use Rattle.disk_model.specs.Images.{AtEachMoment}
use Rattle.hop_frames.specs.Sealing.{hop_sealing}
use Rattle.range_journal.specs.Batches.{length_of}
use Rattle.journal_snapshot.specs.Standing.{IsKept}
use Rattle.journal_snapshot.specs.declared.live.Live.{Live}
use Rattle.journal_snapshot.specs.Snapshots.{SnapshotForm}
use Rattle.kme_base.specs.Steps.{IsStep, placings_of}
use Rattle.kme_base.specs.Random.{with_random}
use Rattle.kme_base.specs.declared.step.Step.{Step}
use Rattle.kme_journal.specs.Spelled.{IsBody, added}
use Rattle.kme_journal.specs.Drafts.{HasPlace, IsRoomier, HoldsEither, with_octets}
use Rattle.kme_journal.proofs.Decided.{AreOver}
use Rattle.kme_store.specs.Drawing.{Gives}
use Rattle.kme_store.specs.Manager.{HasDisk, WhereUp, WhereDown, IsTaken, IsToldBy, Answers}
use Rattle.kme_store.specs.declared.manager_state.Standing.{Standing}
use Rattle.kme_store.specs.declared.manager_state.Standing.TheVariants.{Up, Down, Between}
use Rattle.kme_store.proofs.Answering.{IsMadeOver, IsWritten, drawn_effect, stopped, gone}
use Rattle.kme_store.proofs.Told.{Appends, Nothing, told_still, told_more}
use Rattle.disk_model.specs.declared.disk.Disk as Disk
use Rattle.source_devices.specs.declared.entropy.Entropy as Entropy

-- writing a slice back gives this slice
pub written : {X : Type 0} (n : ℕ) (new old : List X) → length new ≡ n → take n (new ++ old) ≡ new
written n new old e = ap (λ (m : ℕ). take m (new ++ old)) (sym e) ∙ take-append_seam new old

module _ {K E : Type 0} (disk_says : Disk.Ghosts K) (entropy_says : Entropy.Ghosts E) (is_up : ℕ → Bool) (event : Event) (site : Declared) (v : View) (before : E) (journal : SnapshotForm K) where
  -- a draft over zeros, and a journal with memory for it
  pub record IsDrafted (mid : SnapshotForm K) (zeros : List ℕ) (s : Step) (body : Option (List ℕ)) : Type 0 where
    pub roomier : IsRoomier disk_says.is_honest disk_says.content disk_says.moment disk_says.image disk_says.faults disk_says.armings journal mid
    pub kept : IsTrue (disk_says.is_honest journal.disk) → IsKept journal.live journal.batches (disk_says.content journal.disk) (disk_says.image journal.disk (disk_says.moment journal.disk))
    pub over : zeros ≡ replicate (random_need v event) 0
    pub step : IsStep v (placings_of event) (decide (site_of site) hop_sealing is_up v zeros event) (Ok s)
    pub spelled : IsBody mid.live.version s.batch body
    pub place : HasPlace mid body

  pub made_over : (mid : SnapshotForm K) (zeros : List ℕ) (s : Step) (body : Option (List ℕ)) → IsDrafted mid zeros s body →
      IsMadeOver disk_says entropy_says is_up event site v before journal zeros s body
  made_over mid zeros s body d = record {
    need = ap length d.over ∙ length-replicate (random_need v event) 0;
    step = d.step;
    spelled = subst (λ (l : Live). IsBody l.version s.batch body) d.roomier.live d.spelled;
    within =
        subst (λ (l : Live). length_of l.start journal.batches + added body ≤ journal_limit) d.roomier.live
        (subst (λ (bs : List (List ℕ)). length_of mid.live.start bs + added body ≤ journal_limit) d.roomier.batches d.place.within);
  }

  -- the step with the drawn octets, and what happened to its batch
  pub record IsFinished (mid : SnapshotForm K) (random : List ℕ) (s : Step) (body : Option (List ℕ)) (standing : Standing K) (now : View) (reply : Reply) : Type 0 where
    pub spelled : IsBody mid.live.version (with_random random s.batch) body
    pub moments : HasDisk (λ disk. AtEachMoment disk_says.moment disk_says.image mid.disk disk (λ i. IsTrue (disk_says.is_honest mid.disk) → HoldsEither mid body i)) standing
    pub up : WhereUp (λ j. (j.live ≡ mid.live) × (j.batches ≡ with_octets mid.batches body)) standing
    pub taken : WhereUp (λ j. IsTaken v (placings_of event) (record s { batch = with_random random s.batch }) now reply) standing
    pub down : WhereDown (λ disk. (reply ≡ replies.Stopped) × IsSome body × Rose (disk_says.faults mid.disk) (disk_says.faults disk)) standing
    pub left : WhereDown (λ disk. now ≡ v) standing
    pub calm : WhereUp (λ j. disk_says.faults j.disk ≡ disk_says.faults mid.disk) standing

  -- the same, from the contracts over the view and the step with drawn octets
  pub is_finished : (mid : SnapshotForm K) (random : List ℕ) (s s' : Step) (body : Option (List ℕ)) (standing : Standing K) (w now : View) (reply : Reply) → w ≡ v → s' ≡ record s { batch = with_random random s.batch } →
      IsBody mid.live.version s'.batch body → HasDisk (λ disk. AtEachMoment disk_says.moment disk_says.image mid.disk disk (λ i. IsTrue (disk_says.is_honest mid.disk) → HoldsEither mid body i)) standing →
      WhereUp (λ j. (j.live ≡ mid.live) × (j.batches ≡ with_octets mid.batches body)) standing → WhereUp (λ j. IsTaken w (placings_of event) s' now reply) standing →
      WhereDown (λ disk. (reply ≡ replies.Stopped) × IsSome body × Rose (disk_says.faults mid.disk) (disk_says.faults disk)) standing → WhereDown (λ disk. now ≡ w) standing →
      WhereUp (λ j. disk_says.faults j.disk ≡ disk_says.faults mid.disk) standing → IsFinished mid random s body standing now reply
  is_finished mid random s s' body standing w now reply same step spelled moments up taken down left calm = record {
    spelled = subst (λ (x : Step). IsBody mid.live.version x.batch body) step spelled;
    moments = moments;
    up = up;
    taken = subst (λ (x : Step). WhereUp (λ j. IsTaken v (placings_of event) x now reply) standing) step (subst (λ (x : View). WhereUp (λ j. IsTaken x (placings_of event) s' now reply) standing) same taken);
    down = down;
    left = subst (λ (x : View). WhereDown (λ disk. now ≡ x) standing) same left;
    calm = calm;
  }

  is_written : (mid : SnapshotForm K) (zeros random : List ℕ) (s : Step) (body body' : Option (List ℕ)) (disk : K) → IsDrafted mid zeros s body → IsBody mid.live.version (with_random random s.batch) body' →
      AtEachMoment disk_says.moment disk_says.image mid.disk disk (λ i. IsTrue (disk_says.is_honest mid.disk) → HoldsEither mid body' i) →
      IsWritten disk_says entropy_says is_up event site v before journal mid (record s { batch = with_random random s.batch }) body' disk
  is_written mid zeros random s body body' disk d spelled moments = record {
    roomier = d.roomier;
    kept = d.kept;
    spelled = subst (λ (l : Live). IsBody l.version (with_random random s.batch) body') d.roomier.live spelled;
    moments = moments;
  }

  -- the effect took place, or the manager stopped
  pub finished : AreOver → {T : Type 0} (zeros random : List ℕ) (s : Step) (body body' : Option (List ℕ)) (after : E) (done : T) (mid : SnapshotForm K) (standing : Standing K) (site' : Declared) (now : View) (reply : Reply) →
      IsDrafted mid zeros s body → length random ≡ length zeros → Gives (entropy_says.left before) (entropy_says.left after) (Ok done) (length random) random → IsFinished mid random s body' standing now reply → entropy_says.faults after ≡ entropy_says.faults before →
      Answers disk_says entropy_says is_up event (record { site = site; view = v; standing = Up journal; entropy = before }) journal
      (record { site = site'; view = now; standing = standing; entropy = after }) reply
  finished laws {T} zeros random s body body' after done mid (Up j) site' now reply d as_many gives f calm =
      gone disk_says entropy_says is_up event site v before journal laws {T = T} zeros random s body body' after done mid j site' now reply
      (made_over mid zeros s body d) as_many gives (is_written mid zeros random s body body' j.disk d f.spelled f.moments) f.up.0 f.up.1 f.taken calm f.calm
  finished laws {T} zeros random s body body' after done mid (Down disk) site' now reply d as_many gives f calm =
      stopped disk_says entropy_says is_up event site v before journal laws {T = T} zeros random s body body' after done mid disk site' now reply
      (made_over mid zeros s body d) as_many gives (is_written mid zeros random s body body' disk d f.spelled f.moments) f.down.0 f.down.1 f.down.2 f.left calm
  finished laws {T} zeros random s body body' after done mid Between site' now reply d as_many gives f calm = absurd f.moments

  -- replaying the journal still gives the manager
  pub told_after : AreOver → Appends → Nothing → (zeros random : List ℕ) (s : Step) (body body' : Option (List ℕ)) (mid : SnapshotForm K) (standing : Standing K) (site' : Declared) (now : View) (reply : Reply) →
      IsDrafted mid zeros s body → length random ≡ length zeros → IsFinished mid random s body' standing now reply → site' ≡ site → IsToldBy site v (Up journal) → IsToldBy site' now standing
  told_after laws appends nothing zeros random s body body' mid (Up j) site' now reply d as_many f same was =
      let made = made_over mid zeros s body d in
      let e = drawn_effect disk_says entropy_says is_up event site v before journal laws zeros random s body made (as_many ∙ made.need) in
      let here : IsToldBy site v (Up mid) = told_still site v journal mid site v refl refl d.roomier.live d.roomier.batches was in
      told_more site v mid j appends nothing e.effect body' site' now (subst (λ (rs : List Record). IsBody mid.live.version rs body') e.same.batch f.spelled) f.up.0 f.up.1 same (f.taken.view e.effect e.same) here
  told_after laws appends nothing zeros random s body body' mid (Down disk) site' now reply d as_many f same was = tt
  told_after laws appends nothing zeros random s body body' mid Between site' now reply d as_many f same was = absurd f.moments
