-- Each manager notes what became of its frames.
use Rattle.std.proofs.Common.{◌≡◌, ℕ, ◌+◌, ◌<◌, ◌≤◌, true, false, List, [], ◌∷◌, refl, sym, ap, subst, ◌∙◌, arith, append-nil, Some}
use Rattle.std.specs.Prelude.{slice_get}
use Rattle.net_model.specs.declared.event.Event.TheVariants.{Note}
use Rattle.net_model.specs.declared.placing.Placing.{Placing}
use Rattle.net_model.specs.Site.{Site}
use Rattle.net_model.specs.World.{Network, World}
use Rattle.net_model.specs.Events.{is_valid_event}
use Rattle.net_model.specs.Action.{Action, Complete}
use Rattle.net_model.specs.Step.{step, run, IsRun}
use Rattle.net_model.specs.BlockOrder.{completions}
use Rattle.world_state.specs.Passed.{Post, Counts, PostStands, MayNote}
use Rattle.law_locality.proofs.Runs.{run_none, run-append}
use Rattle.world_state.specs.Rests.{Rests}
use Rattle.world_state.specs.Stands.{Stands}
use Rattle.world_state.specs.Tallied.{Tallied}
use Rattle.world_state.specs.Sending.{are_sized}
use Rattle.world_state.specs.declared.state.State.{State}
use Rattle.world_state.proofs.AsksOne.{elsewhere}
use Rattle.world_state.proofs.Changes.{OnePost}
use Rattle.world_state.proofs.Disks.{has_disks}
use Rattle.world_state.proofs.OnePost.{ChangesPost, stands_after, stands_still}
use Rattle.world_state.proofs.PostTallies.{noted_tallied, stayed_tallied}
use Rattle.world_state.proofs.StateGoesOn.{enabled_of}
use Rattle.world_state.proofs.Tallies.{none_tallied, tallied_more}
use Rattle.par_frames.specs.NodeFrames.{MayNoteAll}
use Rattle.par_frames.specs.FrameNoting.{MayNoteOne, NotesOne, StaysOne, NotesAll, EndsNotes}
use Rattle.par_frames.proofs.AllNote.{all_note}
use Rattle.par_frames.proofs.Noted.{notes_of, noted_run, noted_over, run_next, over_next, rest_of, may_next, placings_kept}
use Rattle.par_frames.proofs.RestsOver.{rests_over, notes_still}
use Rattle.world_state.specs.Outside.{Outside}

note_valid : (net : Network) (v : ℕ) (placings : List Placing) → are_sized placings ≡ true → is_valid_event net.site v (Note placings) ≡ true
unfolding is_valid_event
note_valid net v placings h = h

note_changes : (s : Site) (v : ℕ) → ChangesPost s (Complete v) v
note_changes s v = record { nodes = λ u other. elsewhere v u other; lanes = λ l. refl; links = λ link. refl }

module _ {K Q E X : Type 0} (outside : Outside K Q E X) (old : State K Q E X) (net : Network) (w : World) (v : ℕ) (p : Post K E) (placings : List Placing)
    (h : MayNoteOne outside old net w v placings) (there : slice_get old.posts.items v ≡ Some p) where
  pub may_note : MayNote outside.disk outside.entropy net w v p placings old.up
  may_note = record {
    running = h.stands.running;
    stands = h.stands.posts v p there;
    enabled = enabled_of net w (Complete v) h.may;
    are = h.are;
    sized = note_valid net v placings h.sized;
    links = h.stands.up;
  }

  module _ (new : State K Q E X) (q : Post K E) (change : OnePost old new v p q) where
    pub notes_one : PostStands outside.disk outside.entropy net (step net w (Complete v)).0 v q → Counts outside.disk outside.entropy false false p q →
        NotesOne outside old new net w v
    notes_one stands counts = record {
      stands = stands_after outside old new net w v p q change h.stands (Complete v) h.may (note_changes net.site v) stands;
      tallied = noted_tallied outside net.site old new v p q change (has_disks outside old net w h.stands) counts;
    }

    pub stays_one : PostStands outside.disk outside.entropy net w v q → Counts outside.disk outside.entropy false false p q →
        StaysOne outside old new net w
    stays_one stands counts = record {
      stands = stands_still outside old new net w v p q change h.stands stands;
      tallied = stayed_tallied outside net.site old new v p q change (has_disks outside old net w h.stands) counts;
    }

-- ---- node after node

module _ {K Q E X : Type 0} (outside : Outside K Q E X) where
  -- The nodes before this one have noted.
  pub record Noted (old now : State K Q E X) (net : Network) (w : World) (k : ℕ) : Type 0 where
    pub stands : Stands outside now net (noted_over net w k)
    pub tallied : Tallied outside old now net.site (noted_run k)
    pub placed : (v : ℕ) → k ≤ v → (noted_over net w k).placings v ≡ w.placings v

  pub noted_none : (s : State K Q E X) (net : Network) (w : World) → Stands outside s net w → Noted s s net w 0
  noted_none s net w h = record {
    stands = subst (λ (x : World). Stands outside s net x) (sym (run_none net w)) h;
    tallied = none_tallied outside net.site s (has_disks outside s net w h);
    placed = λ v above. ap (λ (x : World). x.placings v) (run_none net w);
  }

  module _ (old mid : State K Q E X) (net : Network) (w : World) (all : List (List Placing)) (h : MayNoteAll outside old net w all) (k : ℕ)
      (far : Noted old mid net w k) where
    runs : IsRun net w (completions net)
    runs = all_note net w h.remains

    pub may_go_on : (xs : List Placing) → slice_get all k ≡ Some xs → k < net.site.nodes → MayNoteOne outside mid net (noted_over net w k) k xs
    may_go_on xs at below =
        let are = h.noted.each k xs at in
        record {
          stands = far.stands;
          may = may_next net w runs k below;
          node = below;
          are = are ∙ sym (far.placed k (omega arith));
          sized = ap are_sized are ∙ h.sized k;
        }

    pub noted_more : (new : State K Q E X) → k < net.site.nodes → NotesOne outside mid new net (noted_over net w k) k → Noted old new net w (k + 1)
    noted_more new below one = record {
      stands = subst (λ (x : World). Stands outside new net x) (sym (over_next net w k)) one.stands;
      tallied = subst (λ (xs : List Action). Tallied outside old new net.site xs) (sym (run_next k))
          (tallied_more outside net.site old mid new (noted_run k) (Complete k ∷ []) far.tallied one.tallied);
      placed = λ v above.
          let running = far.stands.running in
          ap (λ (x : World). x.placings v) (over_next net w k)
          ∙ placings_kept net (noted_over net w k) running.network running.conserved k v (enabled_of net (noted_over net w k) (Complete k) (may_next net w runs k below)) (omega (arith, above)) ∙ far.placed v (omega (arith, above));
    }

    pub noted_ends : (new : State K Q E X) → k ≤ net.site.nodes → StaysOne outside mid new net (noted_over net w k) →
        EndsNotes outside old new net w
    noted_ends new within stays =
        let r = rest_of net w runs k within in
        let over : run net w (completions net) ≡ run net (noted_over net w k) (notes_of r.nodes) = ap (run net w) r.all ∙ run-append net (noted_run k) (notes_of r.nodes) w in
        let so_far = tallied_more outside net.site old mid new (noted_run k) [] far.tallied stays.tallied in
        let still = notes_still outside net.site new (has_disks outside new net (noted_over net w k) stays.stands) r.nodes in
        record {
          rests = subst (λ (x : World). Rests outside new net x) (sym over) (rests_over outside net new r.nodes (noted_over net w k) r.runs stays.stands);
          tallied = subst (λ (xs : List Action). Tallied outside old new net.site xs) (sym r.all)
              (tallied_more outside net.site old new new (noted_run k) (notes_of r.nodes)
              (subst (λ (xs : List Action). Tallied outside old new net.site xs) (append-nil (noted_run k)) so_far) still);
        }

  pub noted_all : (old now : State K Q E X) (net : Network) (w : World) (k : ℕ) → k ≡ net.site.nodes → Noted old now net w k →
      NotesAll outside old now net w
  noted_all old now net w k end far = record {
    stands = subst (λ (n : ℕ). Stands outside now net (noted_over net w n)) end far.stands;
    tallied = subst (λ (n : ℕ). Tallied outside old now net.site (noted_run n)) end far.tallied;
  }
