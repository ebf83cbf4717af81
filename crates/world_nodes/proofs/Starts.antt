-- Starting a node's manager: what the program does is an answer to a start in the network.
use Rattle.std.proofs.Common.{◌≡◌, ◌≢◌, ◌≤◌, inl, inr, ℕ, Bool, true, false, IsTrue, List, [], refl, sym, ap, subst, ◌∙◌, arith, Option, Some, None, Result, Ok, Err}
use Rattle.std.specs.Prelude.{◌&&◌, if◌then◌else◌}
use Rattle.std.proofs.lemmas.Bool.{false≢true, lt-ltb}
use Rattle.qkd_base.specs.Faults.{Rose}
use Rattle.net_model.specs.Site.{Site}
use Rattle.net_model.specs.World.{Network, World, Journal, InDoubt}
use Rattle.net_model.specs.View.{View}
use Rattle.net_model.specs.Needed.{view_of}
use Rattle.net_model.specs.Journal.{is_blank, checkpoint_need, new_journal, extended, recovered_journal}
use Rattle.net_model.specs.Faults.{is_interrupted}
use Rattle.net_model.specs.Fold.{view_restarted}
use Rattle.net_model.specs.Start.{may_resolve, may_recover, resolved_journal, recovers, start}
use Rattle.net_model.specs.Action.{Recovery, Start, Recovers as ReadsBack, Resumes, Interrupted, NoMemory, Foreign as IsForeign, Outcome, WasUp, StartMemory, ForeignAt}
use Rattle.net_model.specs.Step.{step, is_enabled, is_quiet, IsStep, is_node}
use Rattle.declared_site.specs.SiteOf.{site_of}
use Rattle.declared_site.specs.declared.site.Site.{Site as Declared}
use Rattle.disk_model.specs.Images.{StandsStill}
use Rattle.source_devices.specs.Telling.{IsRest}
use Rattle.journal_snapshot.specs.declared.live.Live.{Live}
use Rattle.journal_snapshot.specs.Standing.{new_live}
use Rattle.journal_snapshot.specs.Opening.{IsOpened}
use Rattle.journal_snapshot.specs.Snapshots.{SnapshotForm, journal_of}
use Rattle.journal_snapshot.proofs.Standings.{batches_of}
use Rattle.run_types.specs.declared.start_result.StartResult.{StartResult}
use Rattle.run_types.specs.declared.start_result.StartResult.TheVariants as starts
use Rattle.run_ops.specs.Reported.{started}
use Rattle.law_base.proofs.Base.{and_both}
use Rattle.law_recovery.specs.Fitting.{AllFit}
use Rattle.law_recovery.proofs.Restarting.{restarted_twice, recovered_restarts}
use Rattle.law_recovery.proofs.Checkpoint.{same_need}
use Rattle.law_recovery.specs.Starting.{resolved_view, checkpoint_of, MayStart as MayBegin, Starts, Stops}
use Rattle.law_recovery.proofs.Starts.{reads_back, finds, unsettled, unsettled_rest, settled, settled_rest, wants_memory, is_foreign}
use Rattle.kme_store.proofs.Passed.{nothing_read}
use Rattle.kme_store.specs.Passed.{view as seen_by, GivesBack, IsAfter, IsLeft, Recovered, RecoverRefusal}
use Rattle.kme_store.specs.Refusals as refusals
use Rattle.kme_store.specs.Start.{IsOver, Recovers}
use Rattle.kme_store.specs.Manager.{ManagerForm, HasDisk, is_up}
use Rattle.kme_store.specs.declared.manager_state.Standing.{Standing}
use Rattle.kme_store.specs.declared.manager_state.Standing.TheVariants.{Up, Down, Between}
use Rattle.kme_store.specs.declared.post.Post.{Post}
use Rattle.kme_store.specs.declared.post.Post.TheVariants.{On, Off}
use Rattle.world_nodes.specs.Stands.{EntropyStands, HasStory, UpStands, journal_with, MayFind, DownStands, StandingStands, PostStands}
use Rattle.world_nodes.specs.Counts.{disk_in, entropy_of, IsCounted, Counts}
use Rattle.world_nodes.specs.Starting.{MayStart, HasStarted, result_of}
use Rattle.world_nodes.proofs.Counted.{still, post_disk, unchanged}
use Rattle.world_nodes.proofs.Images.{image_on, journal_on, nothing_on}
use Rattle.world_nodes.proofs.Found.{same_manager, opened_is}
use Rattle.world_nodes.proofs.Halts.{after_journal, after_nothing, new_opened, refused_image, checkpoint_plain, settled_journal}
use Rattle.world_nodes.proofs.Foreign.{foreign_found}
use Rattle.disk_model.specs.declared.disk.Disk as Disk
use Rattle.source_devices.specs.declared.entropy.Entropy as Entropy

module _ {K E : Type 0} (disk_says : Disk.Ghosts K) (entropy_says : Entropy.Ghosts E)
    (net : Network) (w : World) (v : ℕ) (site : Declared) (disk : K) (entropy : E) (m : MayStart disk_says entropy_says net w v site (Off disk entropy)) where
  abbrev down : DownStands disk_says net w v disk
  down = m.stands.1

  abbrev Began : Post K E → StartResult → Type 0
  Began new result = HasStarted disk_says entropy_says net w v (Off disk entropy) new result

  may : MayBegin net w v
  may = record { network = m.running.network; conserved = m.running.conserved; node = m.node; down = down.down; quiet = m.quiet; fits = down.fits }

  entropy_on : (w' : World) → w'.drawn v ≡ w.drawn v → EntropyStands entropy_says net w' v entropy
  entropy_on w' e = let h = m.stands.0 in record { rest = h.rest; tells = h.tells; left = subst (λ (n : ℕ). IsRest (net.entropy v) n h.rest) (sym e) h.left }

  -- The disk is still there.
  counted : (fault : Bool) (new : K) → IsCounted fault (disk_says.faults disk) (disk_says.faults new) → disk_says.armings new ≡ disk_says.armings disk → Counts disk_says entropy_says fault false (Off disk entropy) (Off new entropy)
  counted fault new count arms = record { before = disk; now = new; was = refl; is = refl; disk = count; arms = arms; entropy = still (entropy_says.faults entropy) }

  no_fault : (fault : Bool) (before now : ℕ) → fault ≡ false → now ≡ before → IsCounted fault before now
  no_fault fault before now calm same = record { later = omega (arith, same); rose = λ is. absurd (false≢true (sym calm ∙ is)); calm = λ none. same }

  -- The start is refused, and the node stays as it was.
  refused : (recovery : Recovery) (outcome : Outcome) (result : StartResult) (new : K) → is_interrupted recovery ≡ false → IsStep net w (Start v recovery) → step net w (Start v recovery) ≡ (w, outcome) → outcome ≡ started result →
      disk_says.is_honest new ≡ disk_says.is_honest disk → ((i : List ℕ) → disk_says.image new (disk_says.moment new) i → MayFind net w v i) → disk_says.faults new ≡ disk_says.faults disk → disk_says.armings new ≡ disk_says.armings disk → Began (Off new entropy) result
  refused recovery outcome result new calm step_may is reports honest images same arms = record {
    recovery = recovery;
    may = step_may;
    said = ap (λ (x : World × Outcome). x.1) is ∙ reports;
    stands = subst (λ (x : World × Outcome). PostStands disk_says entropy_says net x.0 v (Off new entropy)) (sym is)
        (entropy_on w refl, record { down = down.down; honest = subst (λ (b : Bool). IsTrue b) (sym honest) down.honest; fits = down.fits; images = images });
    counts = counted (is_interrupted recovery) new (no_fault (is_interrupted recovery) (disk_says.faults disk) (disk_says.faults new) calm same) arms;
  }

  pub no_memory : (new : K) → disk_says.is_honest new ≡ disk_says.is_honest disk → ((i : List ℕ) → disk_says.image new (disk_says.moment new) i → MayFind net w v i) → disk_says.faults new ≡ disk_says.faults disk → disk_says.armings new ≡ disk_says.armings disk → Began (Off new entropy) starts.Memory
  no_memory new honest images same arms = let law = wants_memory net w v may in refused NoMemory StartMemory starts.Memory new refl law.0 law.1 refl honest images same arms

  -- There was no memory for the start, and the disk stays as it was.
  pub no_room : (new : K) → new ≡ disk → Began (Off new entropy) starts.Memory
  no_room new same = no_memory new (ap disk_says.is_honest same) (λ i is. down.images i (subst (λ (d : K). disk_says.image d (disk_says.moment d) i) same is)) (ap disk_says.faults same) (ap disk_says.armings same)

  module _ (given : K) (time : StandsStill (disk_says.moment disk) (disk_says.moment given) (disk_says.image disk) (disk_says.image given)) (honest : disk_says.is_honest given ≡ disk_says.is_honest disk) (same_faults : disk_says.faults given ≡ disk_says.faults disk) (same_arms : disk_says.armings given ≡ disk_says.armings disk) where
    trusted : IsTrue (disk_says.is_honest given)
    trusted = subst (λ (b : Bool). IsTrue b) (sym honest) down.honest

    was : (i : List ℕ) → disk_says.image given (disk_says.moment given) i → MayFind net w v i
    was i is = down.images i ((time.stays (disk_says.moment disk) i (omega arith)).0 (subst (λ (t : ℕ). disk_says.image given t i) time.same is))

    -- ---- the manager starts

    -- What was opened is the node's journal, as a start of the node finds it.
    record Found (old : SnapshotForm K) : Type 0 where
      pub recovery : Recovery
      pub calm : is_interrupted recovery ≡ false
      pub journal' : Journal
      pub view : View
      pub law : Starts net w v recovery journal' view
      pub same : journal_of old ≡ journal'
      pub told' : HasStory net.site v old.live.version old.batches view

    told_there : (old : SnapshotForm K) (live : Live) (bodies : List (List ℕ)) (view : View) → old.live ≡ live → old.batches ≡ bodies → HasStory net.site v live.version bodies view → HasStory net.site v old.live.version old.batches view
    told_there old live bodies view same_live same_bodies h =
        subst (λ (l : Live). HasStory net.site v l.version old.batches view) (sym same_live) (subst (λ (bs : List (List ℕ)). HasStory net.site v live.version bs view) (sym same_bodies) h)

    find : (read : List ℕ) (old : SnapshotForm K) → IsOpened read old.live old.batches → MayFind net w v read → Found old
    find read old opened (inl h) =
        let same = opened_is read old.live h.live old.batches h.bodies opened (batches_of h.live h.bodies h.doubt read h.holds) h.plain in
        let settled_view : View = resolved_view net w v h.committed in
        record {
          recovery = ReadsBack h.committed;
          calm = refl;
          journal' = resolved_journal w v h.committed;
          view = settled_view;
          law = reads_back net w v may h.committed h.may;
          same = (λ i. journal_with (same.0 i) (same.1 i)) ∙ h.journaled;
          told' = told_there old h.live h.bodies settled_view same.0 same.1 h.told;
        }
    find read old opened (inr (inl h)) =
        let same = opened_is read old.live h.live old.batches h.bodies opened (batches_of h.live h.bodies [] read h.holds) (checkpoint_plain net w w v read h) in
        let settled_view : View = resolved_view net w v h.committed in
        record {
          recovery = Resumes h.committed;
          calm = refl;
          journal' = checkpoint_of net w v h.committed;
          view = settled_view;
          law = finds net w v may h.committed h.stopped h.may;
          same = (λ i. journal_with (same.0 i) (same.1 i)) ∙ h.journaled;
          told' = told_there old h.live h.bodies settled_view same.0 same.1 h.told;
        }
    find read old opened (inr (inr h)) =
        let same = new_opened net w v read h.unused old.live old.batches opened in
        let may_new : may_resolve (w.in_doubt v) false ≡ true = ap (λ (d : InDoubt). may_resolve d false) h.certain in
        record {
          recovery = ReadsBack false;
          calm = refl;
          journal' = resolved_journal w v false;
          view = view_of net w v;
          law = reads_back net w v may false may_new;
          same = (λ i. journal_with (same.0 i) (same.1 i)) ∙ sym (new_read h.blank);
          told' = told_there old new_live [] (view_of net w v) same.0 same.1 ([], record { read = nothing_read 2; back = h.empty });
        }
      where
        new_read : is_blank (w.journal v) ≡ true → resolved_journal w v false ≡ new_journal
        new_read blank = ap (λ (t : Bool). if t then new_journal else extended (w.journal v) 0) blank

    up_there : (old new : SnapshotForm K) (a : View) (f : Found old) → GivesBack net.site v old a → IsLeft old a new → GivesBack net.site v new a → IsTrue (disk_says.is_honest new.disk) →
        UpStands disk_says net (step net w (Start v f.recovery)).0 v site a new
    up_there old new a f back left kept is_trusted =
        let seen : a ≡ view_restarted f.view = same_manager net.site v old.live.version old.batches f.view old a refl refl back f.told' in
        let need : checkpoint_need a ≡ checkpoint_need f.view = same_need a f.view (ap view_restarted seen ∙ restarted_twice f.view) in
        record {
          up = f.law.up;
          sited = m.sited;
          sees = seen ∙ sym f.law.sees;
          journaled = left.journal ∙ (λ i. recovered_journal (f.same i) (need i)) ∙ sym f.law.journal';
          honest = is_trusted;
          told = (kept.story, record { read = kept.spelled; back = recovered_restarts net.site v kept.story ∙ ap view_restarted (sym kept.view) });
        }

    pub begun : (back : Recovered K) → Recovers disk_says site v given (Ok back) → (new : ManagerForm K E) →
        new ≡ record { site = back.node.site; view = seen_by back.node; standing = Up back.journal; entropy = entropy } → Began (On new) starts.Started
    begun back rec new is =
        let read = rec.read in
        let k = rec.recovered in
        let a : View = seen_by back.node in
        let at : (s : Site) → site_of site ≡ s → GivesBack s v k.old a × GivesBack s v back.journal a = (λ s e. subst (λ (x : Site). GivesBack x v k.old a × GivesBack x v back.journal a) e (k.back, rec.told)) in
        let both = at net.site m.sited in
        let f = find read k.old (k.opened trusted) (was read (rec.was trusted)) in
        let u = up_there k.old back.journal a f both.0 k.left both.1 (subst (λ (b : Bool). IsTrue b) (sym rec.honest) trusted) in
        let there : Began (On (record { site = back.node.site; view = a; standing = Up back.journal; entropy = entropy })) starts.Started = record {
          recovery = f.recovery;
          may = f.law.may;
          said = f.law.said;
          stands = record {
            entropy = entropy_on (step net w (Start v f.recovery)).0 f.law.drawn;
            standing = subst (λ (d : Declared). UpStands disk_says net (step net w (Start v f.recovery)).0 v d a back.journal) (sym rec.at) u;
          };
          counts = record {
            before = disk;
            now = back.journal.disk;
            was = refl;
            is = refl;
            disk = no_fault (is_interrupted f.recovery) (disk_says.faults disk) (disk_says.faults back.journal.disk) f.calm (rec.calm refl ∙ same_faults);
            arms = rec.arms ∙ same_arms;
            entropy = still (entropy_says.faults entropy);
          };
        } in
        subst (λ (x : ManagerForm K E). Began (On x) starts.Started) (sym is) there

    -- ---- the start is stopped

    module _ (new : K) (same_honest : disk_says.is_honest new ≡ disk_says.is_honest given) (later : disk_says.faults given ≤ disk_says.faults new) (rose : Rose (disk_says.faults given) (disk_says.faults new)) (arms : disk_says.armings new ≡ disk_says.armings given) where
      trusted_new : IsTrue (disk_says.is_honest new)
      trusted_new = subst (λ (b : Bool). IsTrue b) (sym same_honest) trusted

      halted : (made : Option Bool) → Stops net w v (Interrupted made) → AllFit net (view_of net (step net w (Start v (Interrupted made))).0 v) ((step net w (Start v (Interrupted made))).0.in_doubt v).batch →
          ((i : List ℕ) → disk_says.image new (disk_says.moment new) i → MayFind net (step net w (Start v (Interrupted made))).0 v i) → Began (Off new entropy) starts.Stopped
      halted made s fits images = record {
        recovery = Interrupted made;
        may = s.may;
        said = s.said;
        stands = (entropy_on (step net w (Start v (Interrupted made))).0 s.drawn, record { down = s.down; honest = trusted_new; fits = fits; images = images });
        counts = counted true new
            (record { later = omega (arith, later, same_faults); rose = λ fault. subst (λ (n : ℕ). Rose n (disk_says.faults new)) same_faults rose; calm = λ none. absurd (false≢true (sym none)) }) (arms ∙ same_arms);
      }

      fits_there : (w' : World) → view_of net w' v ≡ view_of net w v → (w'.in_doubt v).batch ≡ (w.in_doubt v).batch → AllFit net (view_of net w' v) (w'.in_doubt v).batch
      fits_there w' view batch = subst (λ (a : View). AllFit net a (w'.in_doubt v).batch) (sym view) (subst (λ rs. AllFit net (view_of net w v) rs) (sym batch) down.fits)

      abbrev unknown : World
      unknown = (step net w (Start v (Interrupted None))).0

      on_unknown : (i : List ℕ) → MayFind net w v i → MayFind net unknown v i
      on_unknown i h =
          let rest = unsettled_rest net w v may in
          image_on net w unknown v rest.0 rest.1 (unsettled net w v may).sees (λ before. rest.2) i h

      halted_unknown : ((i : List ℕ) → disk_says.image new (disk_says.moment new) i → MayFind net unknown v i) → Began (Off new entropy) starts.Stopped
      halted_unknown images = let s = unsettled net w v may in halted None s (fits_there unknown s.sees s.doubt) images

      module _ (result : Result (Recovered K) (RecoverRefusal × K)) (read : List ℕ) where
        after_all : MayFind net w v read → ((i : List ℕ) → disk_says.image new (disk_says.moment new) i → IsAfter net.site v result read i) → Began (Off new entropy) starts.Stopped
        after_all (inl h) after =
            let rest = unsettled_rest net w v may in
            let there = journal_on net w unknown v rest.0 rest.1 (unsettled net w v may).sees (λ before. rest.2) read h in
            halted_unknown (λ i is. after_journal net unknown v rest.2 result read i there (after i is))
        after_all (inr (inl h)) after =
            let s = settled net w v may h.committed h.may in
            let rest = settled_rest net w v may h.committed h.may in
            let found : World = (step net w (Start v (Interrupted (Some h.committed)))).0 in
            let there = settled_journal net w found v read h rest.0 rest.1 s.sees in
            halted (Some h.committed) s (fits_there found s.sees s.doubt) (λ i is. after_journal net found v (rest.2 ∙ h.stopped) result read i there (after i is))
        after_all (inr (inr h)) after =
            let rest = unsettled_rest net w v may in
            let there = nothing_on net w unknown v rest.0 rest.1 (unsettled net w v may).sees (λ before. rest.2) read h in
            halted_unknown (λ i is. after_nothing net unknown v rest.2 result read i there (after i is))

    pub halts : (new : K) → Recovers disk_says site v given (Err (refusals.Stopped, new)) → Began (Off new entropy) starts.Stopped
    halts new rec =
        let read = rec.read in
        let result : Result (Recovered K) (RecoverRefusal × K) = Err (refusals.Stopped, new) in
        elim (rec.last trusted) [
          | inl same ↦ halted_unknown new rec.honest rec.later rec.refused rec.arms (λ i is. on_unknown new rec.honest rec.later rec.refused rec.arms i (was i (same i is)))
          | inr after ↦
              after_all new rec.honest rec.later rec.refused rec.arms result read (was read (rec.was trusted))
              (λ i is. subst (λ (s : Site). IsAfter s v result read i) m.sited (after i is))
        ]

    -- ---- the start is refused, and the disk didn't fail

    module _ (why : RecoverRefusal) (new : K) (other : why ≢ refusals.Stopped) (rec : Recovers disk_says site v given (Err (why, new))) where
      left : (i : List ℕ) → disk_says.image new (disk_says.moment new) i → MayFind net w v i
      left i is = elim (rec.leaves other trusted i is) [
        | inl old ↦ was i old
        | inr r ↦ refused_image net w v rec.read i (was rec.read (rec.was trusted)) r
      ]

    pub forgets : (new : K) → Recovers disk_says site v given (Err (refusals.Memory, new)) → Began (Off new entropy) starts.Memory
    forgets new rec =
        no_memory new (rec.honest ∙ honest) (left refusals.Memory new (λ e. absurd (cc e)) rec) (rec.calm refl ∙ same_faults) (rec.arms ∙ same_arms)

    pub refuses : (place : ℕ) (new : K) → Recovers disk_says site v given (Err (refusals.Foreign place, new)) → Began (Off new entropy) (starts.Foreign place)
    refuses place new rec =
        let f = foreign_found net w v rec.read place (was rec.read (rec.was trusted)) (rec.refused trusted) in
        let law = is_foreign net w v may f.0 f.1 in
        refused IsForeign (ForeignAt 16) (starts.Foreign place) new refl law.0 law.1 (ap (λ (n : ℕ). ForeignAt n) (sym f.2)) (rec.honest ∙ honest)
        (left (refusals.Foreign place) new (λ e. absurd (cc e)) rec) (rec.calm refl ∙ same_faults) (rec.arms ∙ same_arms)

    -- ---- the answer of the start

    pub started_as : (back : Result (Recovered K) (RecoverRefusal × K)) (new : ManagerForm K E) → IsOver back entropy (Ok new) → Recovers disk_says site v given back → Began (On new) starts.Started
    started_as (Ok back) new is rec = begun back rec new is
    started_as (Err refusal) new is rec = absurd is

    refused_by : (why : RecoverRefusal) (new : K) → Recovers disk_says site v given (Err (why, new)) → Began (Off new entropy) (result_of why)
    refused_by refusals.Stopped new rec = halts new rec
    refused_by (refusals.Foreign place) new rec = refuses place new rec
    refused_by refusals.Memory new rec = forgets new rec

    pub refused_as : (back : Result (Recovered K) (RecoverRefusal × K)) (why : RecoverRefusal) (new : K) (drawn : E) → IsOver back entropy (Err (why, new, drawn)) →
        Recovers disk_says site v given back → Began (Off new drawn) (result_of why)
    refused_as (Ok back) why new drawn is rec = absurd is
    refused_as (Err refusal) why new drawn is rec = subst (λ (x : RecoverRefusal × K × E). Began (Off x.1 x.2) (result_of x.0)) (sym is) (refused_by refusal.0 refusal.1 rec)

-- A manager that is up stays as it is.
module _ {K E : Type 0} (disk_says : Disk.Ghosts K) (entropy_says : Entropy.Ghosts E)
    (net : Network) (w : World) (v : ℕ) (site : Declared) (post : Post K E) (m : MayStart disk_says entropy_says net w v site post) (up : w.up v ≡ true) where
  says_up : step net w (Start v (ReadsBack false)) ≡ (w, WasUp)
  unfolding step start
  says_up = ap (λ (t : Bool). if t then (w, WasUp) else recovers net w v (ReadsBack false)) up

  enabled_up : is_enabled net w (Start v (ReadsBack false)) ≡ true
  unfolding is_enabled
  enabled_up =
      let asked : Bool = is_quiet net w v && may_recover net w v (ReadsBack false) in
      and_both (is_node net v) (if w.up v then true else asked) (lt-ltb v net.site.nodes m.node) (ap (λ (t : Bool). if t then true else asked) up)

  pub is_up_already : HasStarted disk_says entropy_says net w v post post starts.WasUp
  is_up_already = record {
    recovery = ReadsBack false;
    may = and_both (is_enabled net w (Start v (ReadsBack false))) true enabled_up refl;
    said = ap (λ (x : World × Outcome). x.1) says_up;
    stands = subst (λ (x : World × Outcome). PostStands disk_says entropy_says net x.0 v post) (sym says_up) m.stands;
    counts = let d = post_disk disk_says net w v entropy_says post m.stands in unchanged disk_says entropy_says post d.0 d.1;
  }

-- A manager that is down is started on its disk.
module _ {K E : Type 0} (disk_says : Disk.Ghosts K) (entropy_says : Entropy.Ghosts E)
    (net : Network) (w : World) (v : ℕ) (site : Declared) (disk : K) (entropy : E) where
  disk_down : (at : Declared) (view : View) (s : Standing K) → is_up s ≡ false → HasDisk (λ d. disk ≡ d) s → StandingStands disk_says net w v at view s → DownStands disk_says net w v disk × (disk_in s ≡ Some disk)
  disk_down at view (Up journal) down same h = absurd (cc down)
  disk_down at view (Down d) down same h = (subst (DownStands disk_says net w v) (sym same) h, ap (λ (x : K). Some x) (sym same))
  disk_down at view Between down same h = absurd h

  module _ (post : Post K E) (manager : ManagerForm K E) (is : post ≡ On manager) (down : is_up manager.standing ≡ false) (same : HasDisk (λ d. disk ≡ d) manager.standing) (drawn : entropy ≡ manager.entropy)
      (m : MayStart disk_says entropy_says net w v site post) where
    here : PostStands disk_says entropy_says net w v (On manager)
    here = subst (λ (p : Post K E). PostStands disk_says entropy_says net w v p) is m.stands

    pub may_off : MayStart disk_says entropy_says net w v site (Off disk entropy)
    may_off = record {
      running = m.running;
      stands = (subst (EntropyStands entropy_says net w v) (sym drawn) here.entropy, (disk_down manager.site manager.view manager.standing down same here.standing).0);
      node = m.node;
      quiet = m.quiet;
      sited = m.sited;
    }

    pub begun_off : (new : Post K E) (result : StartResult) → HasStarted disk_says entropy_says net w v (Off disk entropy) new result →
        HasStarted disk_says entropy_says net w v post new result
    begun_off new result h = subst (λ (p : Post K E). HasStarted disk_says entropy_says net w v p new result) (sym is) (record {
      recovery = h.recovery;
      may = h.may;
      said = h.said;
      stands = h.stands;
      counts = record {
        before = disk;
        now = h.counts.now;
        was = (disk_down manager.site manager.view manager.standing down same here.standing).1;
        is = h.counts.is;
        disk = (let first : Some h.counts.before ≡ Some disk = sym h.counts.was in let before : h.counts.before ≡ disk = cc in subst (λ (x : K). IsCounted (is_interrupted h.recovery) (disk_says.faults x) (disk_says.faults h.counts.now)) before h.counts.disk);
        arms = (let first : Some h.counts.before ≡ Some disk = sym h.counts.was in let before : h.counts.before ≡ disk = cc in subst (λ (x : K). disk_says.armings h.counts.now ≡ disk_says.armings x) before h.counts.arms);
        entropy = subst (λ (x : E). IsCounted false (entropy_says.faults x) (entropy_says.faults (entropy_of new))) drawn h.counts.entropy;
      };
    })
