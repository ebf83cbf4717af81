-- The end of a node's life.
use Rattle.std.proofs.Common.{◌≡◌, inl, ℕ, Bool, true, false, IsTrue, List, [], refl, sym, ap, subst, ◌∙◌}
use Rattle.std.specs.Prelude.{Some, if◌then◌else◌}
use Rattle.qkd_base.specs.Family.{number_set}
use Rattle.net_model.specs.World.{Network, World, InDoubt, no_volatile}
use Rattle.net_model.specs.View.{View}
use Rattle.net_model.specs.Needed.{view_of, masked, is_needed}
use Rattle.net_model.specs.Start.{may_resolve}
use Rattle.net_model.specs.Action.{Crash, Outcome, Crashed, WasDown}
use Rattle.net_model.specs.Step.{step, is_enabled}
use Rattle.declared_site.specs.declared.site.Site.{Site as Declared}
use Rattle.range_journal.specs.Header.{is_blank as is_blank_disk}
use Rattle.journal_snapshot.specs.Standing.{Holds, IsKept}
use Rattle.journal_snapshot.specs.Snapshots.{SnapshotForm}
use Rattle.run_ops.specs.Reported.{crashed}
use Rattle.law_recovery.specs.Fitting.{AllFit}
use Rattle.law_base.proofs.Base.{and_both, number_set_same}
use Rattle.kme_store.specs.Manager.{ManagerForm, HasDisk, WhereUp, is_up}
use Rattle.kme_store.specs.declared.manager_state.Standing.{Standing}
use Rattle.kme_store.specs.declared.manager_state.Standing.TheVariants.{Up, Down, Between}
use Rattle.kme_store.specs.declared.post.Post.{Post}
use Rattle.kme_store.specs.declared.post.Post.TheVariants.{On, Off}
use Rattle.world_nodes.specs.LaneStands.{IsRunning}
use Rattle.world_nodes.specs.Stands.{EntropyStands, HasStory, UpStands, HoldsJournal, DownStands, StandingStands, PostStands}
use Rattle.world_nodes.specs.Lives.{MayCrash, HasCrashed}
use Rattle.world_nodes.specs.Counts.{disk_in, IsCounted, Counts}
use Rattle.world_nodes.proofs.Counted.{disk_there, post_disk, still, unchanged}
use Rattle.world_nodes.proofs.Handles.{down_is}
use Rattle.world_nodes.proofs.Stories.{life_told, read_without}
use Rattle.disk_model.specs.declared.disk.Disk as Disk
use Rattle.source_devices.specs.declared.entropy.Entropy as Entropy

abbrev ended : World → ℕ → World
ended w v = record w { up = number_set w.up v false; volatile = number_set w.volatile v no_volatile }

ended_view : (net : Network) (w : World) (v : ℕ) → view_of net (ended w v) v ≡ record (view_of net w v) { volatile = no_volatile }
unfolding view_of masked is_needed
ended_view net w v = let life = number_set_same w.volatile v no_volatile in λ i. record (view_of net w v) { volatile = life i }

says : (net : Network) (w : World) (v : ℕ) → step net w (Crash v) ≡ (if w.up v then (ended w v, Crashed) else (w, WasDown))
unfolding step
says net w v = refl

says_up : (net : Network) (w : World) (v : ℕ) → w.up v ≡ true → step net w (Crash v) ≡ (ended w v, Crashed)
says_up net w v up = says net w v ∙ ap (λ (t : Bool). if t then (ended w v, Crashed) else (w, WasDown)) up

says_down : (net : Network) (w : World) (v : ℕ) → w.up v ≡ false → step net w (Crash v) ≡ (w, WasDown)
says_down net w v down = says net w v ∙ ap (λ (t : Bool). if t then (ended w v, Crashed) else (w, WasDown)) down

module _ {K : Type 0} (disk_says : Disk.Ghosts K) (net : Network) (w : World) (v : ℕ) (r : IsRunning net w) (site : Declared) (view : View) where
  module _ (journal : SnapshotForm K) (u : UpStands disk_says net w v site view journal) where
    seen : HasStory net.site v journal.live.version journal.batches (view_of net (ended w v) v)
    seen = subst (λ (x : View). HasStory net.site v journal.live.version journal.batches x) (sym (ended_view net w v))
        (subst (λ (x : View). HasStory net.site v journal.live.version journal.batches (record x { volatile = no_volatile })) u.sees
        (life_told net.site v journal.live.version journal.batches view no_volatile u.told))

    holds : (i : List ℕ) → is_blank_disk i ≡ false → Holds journal.live journal.batches [] i → HoldsJournal net (ended w v) v i
    holds i plain h = record {
      plain = plain;
      started = r.conserved.started v u.up;
      committed = false;
      may = ap (λ (d : InDoubt). may_resolve d false) (r.conserved.doubtful v u.up);
      live = journal.live;
      bodies = journal.batches;
      doubt = [];
      holds = h;
      journaled = u.journaled ∙ sym (read_without (w.journal v) (w.in_doubt v) (r.conserved.started v u.up));
      told = seen;
      behind = inl refl;
    }

    -- The disk still has the node's journal.
    left : (disk : K) → disk ≡ journal.disk → (IsTrue (disk_says.is_honest disk) → IsKept journal.live journal.batches (disk_says.content disk) (disk_says.image disk (disk_says.moment disk))) → DownStands disk_says net (ended w v) v disk
    left disk same kept =
        let honest : IsTrue (disk_says.is_honest disk) = subst (λ (d : K). IsTrue (disk_says.is_honest d)) (sym same) u.honest in
        let k = kept honest in
        record {
          down = number_set_same w.up v false;
          honest = honest;
          fits = subst (λ (d : InDoubt). AllFit net (view_of net (ended w v) v) d.batch) (sym (r.conserved.doubtful v u.up)) tt;
          images = λ i is. inl (holds i (subst (λ (c : List ℕ). is_blank_disk c ≡ false) (sym (k.settled.only i is)) k.plain) (subst (Holds journal.live journal.batches []) (sym (k.settled.only i is)) k.holds));
        }

  pub ends : (s : Standing K) → is_up s ≡ true → StandingStands disk_says net w v site view s → (disk : K) → HasDisk (λ d. disk ≡ d) s →
      WhereUp (λ j. IsTrue (disk_says.is_honest disk) → IsKept j.live j.batches (disk_says.content disk) (disk_says.image disk (disk_says.moment disk))) s → (w.up v ≡ true) × DownStands disk_says net (ended w v) v disk
  ends (Up journal) up u disk same kept = (u.up, left journal u disk same kept)
  ends (Down d) up u disk same kept = absurd (cc up)
  ends Between up u disk same kept = absurd u

module _ {K E : Type 0} (disk_says : Disk.Ghosts K) (entropy_says : Entropy.Ghosts E)
    (net : Network) (w : World) (v : ℕ) (old : Post K E) (m : MayCrash disk_says entropy_says net w v old) where
  abbrev Crashes : Post K E → Bool → Type 0
  Crashes new was_up = HasCrashed disk_says entropy_says net w v old new was_up

  abbrev SameCounts : Post K E → Post K E → Type 0
  SameCounts p new = Counts disk_says entropy_says false false p new

  crashes : (new : Post K E) (was_up : Bool) (w' : World) → step net w (Crash v) ≡ (w', crashed was_up) → PostStands disk_says entropy_says net w' v new → SameCounts old new → Crashes new was_up
  crashes new was_up w' is stands counts = record {
    may = and_both (is_enabled net w (Crash v)) true m.enabled refl;
    said = ap (λ (x : World × Outcome). x.1) is;
    stands = subst (λ (x : World × Outcome). PostStands disk_says entropy_says net x.0 v new) (sym is) stands;
    counts = counts;
  }

  -- A node that was down stays the same node.
  stays : (new : Post K E) → old ≡ new → PostStands disk_says entropy_says net w v new → w.up v ≡ false → Crashes new false
  stays new is stands down =
      let d = post_disk disk_says net w v entropy_says new stands in
      crashes new false w (says_down net w v down) stands
      (subst (λ (p : Post K E). SameCounts p new) (sym is) (unchanged disk_says entropy_says new d.0 d.1))

  pub crashed_up : (manager : ManagerForm K E) → old ≡ On manager → is_up manager.standing ≡ true → (disk : K) (entropy : E) → HasDisk (λ d. disk ≡ d) manager.standing → entropy ≡ manager.entropy →
      WhereUp (λ j. IsTrue (disk_says.is_honest disk) → IsKept j.live j.batches (disk_says.content disk) (disk_says.image disk (disk_says.moment disk))) manager.standing → Crashes (Off disk entropy) true
  crashed_up manager is up disk entropy same drawn kept =
      let h = subst (λ (p : Post K E). PostStands disk_says entropy_says net w v p) is m.stands in
      let e = ends disk_says net w v m.running manager.site manager.view manager.standing up h.standing disk same kept in
      let left : EntropyStands entropy_says net w v entropy = subst (EntropyStands entropy_says net w v) (sym drawn) h.entropy in
      let d = disk_there (λ d. disk ≡ d) manager.standing same in
      let was : disk_in manager.standing ≡ Some disk = d.1 ∙ ap (λ (x : K). Some x) (sym d.2) in
      crashes (Off disk entropy) true (ended w v) (says_up net w v e.0) (record { rest = left.rest; tells = left.tells; left = left.left }, e.1)
      (subst (λ (p : Post K E). SameCounts p (Off disk entropy)) (sym is)
      (record {
        before = disk;
        now = disk;
        was = was;
        is = refl;
        disk = still (disk_says.faults disk);
        arms = refl;
        entropy = subst (λ (x : E). IsCounted false (entropy_says.faults manager.entropy) (entropy_says.faults x)) (sym drawn) (still (entropy_says.faults manager.entropy));
      }))

  pub crashed_down : (manager : ManagerForm K E) → old ≡ On manager → is_up manager.standing ≡ false → Crashes (On manager) false
  crashed_down manager is down =
      let h = subst (λ (p : Post K E). PostStands disk_says entropy_says net w v p) is m.stands in
      stays (On manager) is h (down_is disk_says net w v manager.site manager.view manager.standing down h.standing)

  pub crashed_off : (disk : K) (entropy : E) → old ≡ Off disk entropy → Crashes (Off disk entropy) false
  crashed_off disk entropy is =
      let h = subst (λ (p : Post K E). PostStands disk_says entropy_says net w v p) is m.stands in
      stays (Off disk entropy) is h h.1.down
