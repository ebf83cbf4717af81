-- Arming a node's disk.
use Rattle.std.proofs.Common.{◌≡◌, ℕ, Bool, true, false, IsTrue, List, refl, sym, ap, subst, ◌∙◌, arith}
use Rattle.std.specs.Prelude.{Some}
use Rattle.net_model.specs.World.{Network, World}
use Rattle.net_model.specs.View.{View}
use Rattle.net_model.specs.Action.{Arm, Fault}
use Rattle.net_model.specs.Step.{step, is_enabled}
use Rattle.declared_site.specs.declared.site.Site.{Site as Declared}
use Rattle.disk_model.specs.declared.arm.Arm.{Arm as DiskArm}
use Rattle.journal_snapshot.specs.declared.live.Live.{Live}
use Rattle.journal_snapshot.specs.Snapshots.{SnapshotForm}
use Rattle.law_base.proofs.Base.{and_both}
use Rattle.kme_store.specs.Manager.{ManagerForm, IsArmed, StandsOver}
use Rattle.kme_store.specs.declared.manager_state.Standing.{Standing}
use Rattle.kme_store.specs.declared.manager_state.Standing.TheVariants.{Up, Down, Between}
use Rattle.kme_store.specs.declared.post.Post.{Post}
use Rattle.kme_store.specs.declared.post.Post.TheVariants.{On, Off}
use Rattle.world_nodes.specs.Stands.{HasStory, UpStands, journal_with, DownStands, StandingStands, PostStands}
use Rattle.world_nodes.specs.Counts.{disk_in, IsCounted}
use Rattle.world_nodes.specs.Lives.{MayArm, HasArmed, IsArmedWith}
use Rattle.world_nodes.proofs.Counted.{still}
use Rattle.disk_model.specs.declared.disk.Disk as Disk
use Rattle.source_devices.specs.declared.entropy.Entropy as Entropy

module _ {K : Type 0} (disk_says : Disk.Ghosts K) (arm : DiskArm) (net : Network) (w : World) (v : ℕ) where
  abbrev Armed' : K → K → Type 0
  Armed' old new = IsArmed disk_says arm old new

  -- The images of the disk stay the same.
  down_armed : (old new : K) → Armed' old new → DownStands disk_says net w v old → DownStands disk_says net w v new
  down_armed old new a h = record {
    down = h.down;
    honest = subst (λ (b : Bool). IsTrue b) (sym a.honest) h.honest;
    fits = h.fits;
    images = λ i is. h.images i ((a.time.stays (disk_says.moment old) i (omega arith)).0 (subst (λ (t : ℕ). disk_says.image new t i) a.time.same is));
  }

  up_armed : (site : Declared) (view : View) (old new : SnapshotForm K) → new.live ≡ old.live → new.batches ≡ old.batches → Armed' old.disk new.disk → UpStands disk_says net w v site view old →
      UpStands disk_says net w v site view new
  up_armed site view old new live batches a u = record {
    up = u.up;
    sited = u.sited;
    sees = u.sees;
    journaled = (λ i. journal_with (live i) (batches i)) ∙ u.journaled;
    honest = subst (λ (b : Bool). IsTrue b) (sym a.honest) u.honest;
    told = subst (λ (l : Live). HasStory net.site v l.version new.batches view) (sym live) (subst (λ (bs : List (List ℕ)). HasStory net.site v old.live.version bs view) (sym batches) u.told);
  }

  standing_armed : (site : Declared) (view : View) (s t : Standing K) → StandsOver Armed' s t → StandingStands disk_says net w v site view s → StandingStands disk_says net w v site view t
  standing_armed site view (Up old) (Up new) a u = up_armed site view old new a.0 a.1 a.2 u
  standing_armed site view (Up old) (Down new) a u = absurd a
  standing_armed site view (Up old) Between a u = absurd a
  standing_armed site view (Down old) (Up new) a u = absurd a
  standing_armed site view (Down old) (Down new) a u = down_armed old new a u
  standing_armed site view (Down old) Between a u = absurd a
  standing_armed site view Between t a u = absurd a

  module _ {E : Type 0} (entropy_says : Entropy.Ghosts E) where
    post_armed : (old new : ManagerForm K E) → new ≡ record old { standing = new.standing } → StandsOver Armed' old.standing new.standing → PostStands disk_says entropy_says net w v (On old) →
        PostStands disk_says entropy_says net w v (On new)
    post_armed old new same a h =
        subst (λ (n : ManagerForm K E). PostStands disk_says entropy_says net w v (On n)) (sym same)
        (record { entropy = h.entropy; standing = standing_armed old.site old.view old.standing new.standing a h.standing })

    -- the action of arming
    armed_as : (fault : Fault) (old new : Post K E) → MayArm disk_says entropy_says net w v fault old → PostStands disk_says entropy_says net w v new → HasArmed disk_says entropy_says net w v fault new
    unfolding step
    armed_as fault old new m stands = record { may = and_both (is_enabled net w (Arm v fault)) true m.enabled refl; said = refl; stands = stands }

    pub armed_on : (fault : Fault) (post : Post K E) (old new : ManagerForm K E) → post ≡ On old → new ≡ record old { standing = new.standing } → StandsOver Armed' old.standing new.standing →
        MayArm disk_says entropy_says net w v fault post → HasArmed disk_says entropy_says net w v fault (On new)
    armed_on fault post old new is same a m =
        armed_as fault post (On new) m (post_armed old new same a (subst (λ (p : Post K E). PostStands disk_says entropy_says net w v p) is m.stands))

    pub armed_off : (fault : Fault) (post : Post K E) (old new : K) (entropy : E) → post ≡ Off old entropy → Armed' old new → MayArm disk_says entropy_says net w v fault post →
        HasArmed disk_says entropy_says net w v fault (Off new entropy)
    armed_off fault post old new entropy is a m =
        let h = subst (λ (p : Post K E). PostStands disk_says entropy_says net w v p) is m.stands in
        armed_as fault post (Off new entropy) m (h.0, down_armed old new a h.1)

-- the counts after the arming
module _ {K E : Type 0} (disk_says : Disk.Ghosts K) (entropy_says : Entropy.Ghosts E) (arm : DiskArm) where
  abbrev IsArmedOnce : K → K → Type 0
  IsArmedOnce old new = IsArmed disk_says arm old new

  same_count : {before now : ℕ} → now ≡ before → IsCounted false before now
  same_count {before} same = subst (IsCounted false before) (sym same) (still before)

  both_disks : (s t : Standing K) → StandsOver IsArmedOnce s t → (before : K) × (now : K) × (disk_in s ≡ Some before) × (disk_in t ≡ Some now) × IsArmedOnce before now
  both_disks (Up old) (Up new) a = (old.disk, new.disk, refl, refl, a.2)
  both_disks (Up old) (Down new) a = absurd a
  both_disks (Up old) Between a = absurd a
  both_disks (Down old) (Up new) a = absurd a
  both_disks (Down old) (Down new) a = (old, new, refl, refl, a)
  both_disks (Down old) Between a = absurd a
  both_disks Between t a = absurd a

  pub counted_on : (post : Post K E) (old new : ManagerForm K E) → post ≡ On old → new ≡ record old { standing = new.standing } → StandsOver IsArmedOnce old.standing new.standing →
      IsArmedWith disk_says entropy_says arm post (On new)
  counted_on post old new is same a =
      let d = both_disks old.standing new.standing a in
      subst (λ (p : Post K E). IsArmedWith disk_says entropy_says arm p (On new)) (sym is)
      (record {
        before = d.0;
        now = d.1;
        was = d.2;
        is = d.3;
        disk = same_count d.4.failed;
        arms = d.4.armed;
        entropy = same_count (ap (λ (m : ManagerForm K E). entropy_says.faults m.entropy) same);
      })

  pub counted_off : (post : Post K E) (old new : K) (entropy : E) → post ≡ Off old entropy → IsArmedOnce old new → IsArmedWith disk_says entropy_says arm post (Off new entropy)
  counted_off post old new entropy is a =
      subst (λ (p : Post K E). IsArmedWith disk_says entropy_says arm p (Off new entropy)) (sym is)
      (record { before = old; now = new; was = refl; is = refl; disk = same_count a.failed; arms = a.armed; entropy = still (entropy_says.faults entropy) })
