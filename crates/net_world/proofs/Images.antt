-- Every image of a started node's disk encodes batches from which the node can be restored.
use Rattle.std.proofs.Common.{◌≡◌, inl, inr, ℕ, Bool, true, false, IsTrue, List, [], sym, ap, subst, ◌∙◌, Option, Some}
use Rattle.net_model.specs.declared.record.Record.{Record}
use Rattle.net_model.specs.World.{Network, World, InDoubt, Journal}
use Rattle.net_model.specs.View.{View}
use Rattle.net_model.specs.Journal.{is_blank}
use Rattle.net_model.specs.Start.{may_resolve}
use Rattle.declared_site.specs.declared.site.Site.{Site as Declared}
use Rattle.journal_snapshot.specs.declared.live.Live.{Live}
use Rattle.journal_snapshot.specs.Standing.{HasBatches, IsKept}
use Rattle.journal_snapshot.specs.Snapshots.{SnapshotForm}
use Rattle.journal_snapshot.proofs.Standings.{batches_of}
use Rattle.law_base.proofs.Base.{not_both}
use Rattle.law_recovery.specs.Starting.{resolved_view}
use Rattle.law_run.specs.Seen.{IsKept as IsGiven}
use Rattle.world_state.specs.Passed.{WhereUp, Standing, Up, Down, Between, Post, On, Off, IsRunning, HasStory, UpStands, HoldsJournal, MayFind, DownStands, StandingStands, PostStands, disk_in, disk_of}
use Rattle.world_state.specs.Rests.{KeepsAs, PostRests}
use Rattle.net_world.specs.Laid.{IsOnDisk}
use Rattle.net_world.specs.Reading.{ReadsDisks}
use Rattle.net_world.proofs.Lists.{some_is}
use Rattle.disk_model.specs.declared.disk.Disk as Disk
use Rattle.source_devices.specs.declared.entropy.Entropy as Entropy

-- what is read from an image

kept_batches : (live : Live) (bodies : List (List ℕ)) (content : List ℕ) (images : List ℕ → Type 0) → IsKept live bodies content images → (i : List ℕ) → images i → HasBatches live bodies i
kept_batches live bodies content images k i is = subst (HasBatches live bodies) (sym (k.settled.only i is)) (batches_of live bodies [] content k.holds)

journal_batches : (net : Network) (w : World) (v : ℕ) (i : List ℕ) (h : HoldsJournal net w v i) → HasBatches h.live h.bodies i
journal_batches net w v i h = batches_of h.live h.bodies h.doubt i h.holds

module _ (net : Network) (w : World) (v : ℕ) (running : IsRunning net w) (started : is_blank (w.journal v) ≡ false) (batches : List ℕ → Option (List (List Record))) (reads : ReadsDisks batches) where
  abbrev pub Gives : List ℕ → Type 0
  Gives i = (story : List (List Record)) × (batches i ≡ Some story) × IsGiven net w v story

  gives : (committed : Bool) → may_resolve (w.in_doubt v) committed ≡ true → (live : Live) (bodies : List (List ℕ)) (i : List ℕ) → HasBatches live bodies i →
      HasStory net.site v live.version bodies (resolved_view net w v committed) → Gives i
  gives committed may live bodies i has told = (told.0, reads i live bodies told.0 has told.1.read, record { committed = committed; may = may; given = told.1.back })

  module _ {K : Type 0} (disk_says : Disk.Ghosts K) where
    up_gives : (site : Declared) (view : View) (journal : SnapshotForm K) → UpStands disk_says net w v site view journal →
        (IsTrue (disk_says.is_honest journal.disk) → IsKept journal.live journal.batches (disk_says.content journal.disk) (disk_says.image journal.disk (disk_says.moment journal.disk))) → (i : List ℕ) → disk_says.image journal.disk (disk_says.moment journal.disk) i → Gives i
    up_gives site view journal u kept i is =
        gives false (ap (λ (d : InDoubt). may_resolve d false) (running.conserved.doubtful v u.up)) journal.live journal.batches i
        (kept_batches journal.live journal.batches (disk_says.content journal.disk) (disk_says.image journal.disk (disk_says.moment journal.disk)) (kept u.honest) i is)
        (subst (λ (x : View). HasStory net.site v journal.live.version journal.batches x) u.sees u.told)

    down_gives : (disk : K) → DownStands disk_says net w v disk → (i : List ℕ) → disk_says.image disk (disk_says.moment disk) i → Gives i
    down_gives disk d i is = by (d.images i is)
      where
        by : MayFind net w v i → Gives i
        by (inl h) = gives h.committed h.may h.live h.bodies i (journal_batches net w v i h) h.told
        by (inr (inl h)) = gives h.committed h.may.may h.live h.bodies i (batches_of h.live h.bodies [] i h.holds) h.told
        by (inr (inr h)) = absurd (not_both (is_blank (w.journal v)) h.blank started)

    standing_gives : (site : Declared) (view : View) (s : Standing K) → StandingStands disk_says net w v site view s →
        WhereUp (λ j. IsTrue (disk_says.is_honest j.disk) → IsKept j.live j.batches (disk_says.content j.disk) (disk_says.image j.disk (disk_says.moment j.disk))) s → (disk : K) → disk_in s ≡ Some disk → (i : List ℕ) → disk_says.image disk (disk_says.moment disk) i → Gives i
    standing_gives site view (Up journal) u kept disk is i at =
        up_gives site view journal u kept i (subst (λ (k : K). disk_says.image k (disk_says.moment k) i) (sym (some_is is)) at)
    standing_gives site view (Down left) d kept disk is i at = down_gives left d i (subst (λ (k : K). disk_says.image k (disk_says.moment k) i) (sym (some_is is)) at)
    standing_gives site view Between h kept disk is i at = absurd h

    post_gives : {E : Type 0} (entropy_says : Entropy.Ghosts E) (p : Post K E) → PostStands disk_says entropy_says net w v p → IsOnDisk disk_says p →
        (disk : K) → disk_of p ≡ Some disk → (i : List ℕ) → disk_says.image disk (disk_says.moment disk) i → Gives i
    post_gives entropy_says (On m) h kept disk is i at = standing_gives m.site m.view m.standing h.standing kept disk is i at
    post_gives entropy_says (Off k entropy) h kept disk is i at = down_gives k h.1 i (subst (λ (x : K). disk_says.image x (disk_says.moment x) i) (sym (some_is is)) at)

-- a post that rests can be restored too, since no journal has volatile state
module _ (net : Network) (w : World) (v : ℕ) (started : is_blank (w.journal v) ≡ false) (batches : List ℕ → Option (List (List Record))) (reads : ReadsDisks batches) where
  given_there : (u : World) → KeepsAs net v u w → (story : List (List Record)) → IsGiven net u v story → IsGiven net w v story
  given_there u k story g = record {
    committed = g.committed;
    may = subst (λ (d : InDoubt). may_resolve d g.committed ≡ true) (sym k.doubt) g.may;
    given = g.given ∙ sym (k.given g.committed);
  }

  pub rest_gives : {K E : Type 0} (disk_says : Disk.Ghosts K) (entropy_says : Entropy.Ghosts E) (p : Post K E) →
      PostRests disk_says entropy_says net w v p → IsOnDisk disk_says p → (disk : K) → disk_of p ≡ Some disk → (i : List ℕ) → disk_says.image disk (disk_says.moment disk) i →
      (story : List (List Record)) × (batches i ≡ Some story) × IsGiven net w v story
  rest_gives disk_says entropy_says p h kept disk is i at =
      let u = h.0 in
      let g = post_gives net u v h.1.running (subst (λ (j : Journal). is_blank j ≡ false) h.1.journal started) batches reads disk_says entropy_says p h.2 kept disk is i at in
      (g.0, g.1, given_there u h.1 g.0 g.2)
