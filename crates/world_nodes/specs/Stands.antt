-- How a post of the program stands for a node of the network.
use Rattle.std.specs.Prelude.{◌≡◌, ◌⊎◌, ℕ, Bool, true, false, IsTrue, List, [], ◌∷◌, ◌++◌, Some}
use Rattle.net_model.specs.declared.record.Record.{Record}
use Rattle.net_model.specs.OctetSequence.{OctetSequence}
use Rattle.net_model.specs.Site.{Site}
use Rattle.net_model.specs.World.{Network, World, Journal, no_doubt}
use Rattle.net_model.specs.View.{View}
use Rattle.net_model.specs.Needed.{view_of}
use Rattle.net_model.specs.Journal.{is_blank}
use Rattle.net_model.specs.Start.{may_resolve, resolved_journal}
use Rattle.declared_site.specs.SiteOf.{site_of}
use Rattle.declared_site.specs.declared.site.Site.{Site as Declared}
use Rattle.source_devices.specs.Telling.{IsRest}
use Rattle.range_journal.specs.Batches.{length_of}
use Rattle.range_journal.specs.Header.{new_header, is_blank as is_blank_disk}
use Rattle.journal_snapshot.specs.declared.live.Live.{Live}
use Rattle.journal_snapshot.specs.Layout.{is_moved}
use Rattle.journal_snapshot.specs.Standing.{Holds, new_live}
use Rattle.journal_snapshot.specs.Snapshots.{SnapshotForm, journal_of}
use Rattle.law_recovery.specs.Fitting.{AllFit}
use Rattle.law_recovery.specs.GivesBack.{GivesBack}
use Rattle.law_recovery.specs.Starting.{resolved_view, MayCheckpoint, checkpoint_of}
use Rattle.kme_store.specs.Passed.{AreReadAs}
use Rattle.kme_store.specs.Manager.{ManagerForm}
use Rattle.kme_store.specs.declared.manager_state.Standing.{Standing}
use Rattle.kme_store.specs.declared.manager_state.Standing.TheVariants.{Up, Down, Between}
use Rattle.kme_store.specs.declared.post.Post.{Post}
use Rattle.kme_store.specs.declared.post.Post.TheVariants.{On, Off}
use Rattle.disk_model.specs.declared.disk.Disk as Disk
use Rattle.source_devices.specs.declared.entropy.Entropy as Entropy

-- The entropy tells which octets are left of the node's octets.
pub record EntropyStands {E : Type 0} (entropy_says : Entropy.Ghosts E) (net : Network) (w : World) (v : ℕ) (entropy : E) : Type 0 where
  pub rest : OctetSequence
  pub tells : entropy_says.left entropy ≡ Some rest
  pub left : IsRest (net.entropy v) (w.drawn v) rest

-- The bodies are batches in this version of the format, and these batches restore the view.
pub record IsStory (site : Site) (v version : ℕ) (bodies : List (List ℕ)) (view : View) (story : List (List Record)) : Type 0 where
  pub read : AreReadAs version bodies story
  pub back : GivesBack site v story view

abbrev pub HasStory : Site → ℕ → ℕ → List (List ℕ) → View → Type 0
HasStory site v version bodies view = (story : List (List Record)) × IsStory site v version bodies view story

-- A manager that is up is the node's manager: it has the node's site, its view and its journal, and the journal restores the view.
pub record UpStands {K : Type 0} (disk_says : Disk.Ghosts K) (net : Network) (w : World) (v : ℕ) (site : Declared) (view : View) (journal : SnapshotForm K) : Type 0 where
  pub up : w.up v ≡ true
  pub sited : site_of site ≡ net.site
  pub sees : view ≡ view_of net w v
  pub journaled : journal_of journal ≡ w.journal v
  pub honest : IsTrue (disk_says.is_honest journal.disk)
  pub told : HasStory net.site v journal.live.version journal.batches view

-- the journal of a disk with this live area and these batches
abbrev pub journal_with : Live → List (List ℕ) → Journal
journal_with live bodies =
    record {
      length' = length_of live.start bodies;
      start = live.start;
      generation = live.generation;
      moved = is_moved live.area;
      version = live.version;
    }

-- With one more body, the image has the node's journal with the batch in doubt.
pub record IsBehind (net : Network) (w : World) (v : ℕ) (live : Live) (bodies doubt : List (List ℕ)) (committed : Bool) : Type 0 where
  pub body : List ℕ
  pub is : doubt ≡ body ∷ []
  pub unmade : committed ≡ false
  pub may : may_resolve (w.in_doubt v) true ≡ true
  pub journaled : journal_with live (bodies ++ body ∷ []) ≡ resolved_journal w v true
  pub told : HasStory net.site v live.version (bodies ++ body ∷ []) (resolved_view net w v true)

-- The image has the node's journal, with the batch in doubt or without it. After a gate that isn't closed, only the batch in doubt may follow.
pub record HoldsJournal (net : Network) (w : World) (v : ℕ) (image : List ℕ) : Type 0 where
  pub started : is_blank (w.journal v) ≡ false
  pub plain : is_blank_disk image ≡ false
  pub committed : Bool
  pub may : may_resolve (w.in_doubt v) committed ≡ true
  pub live : Live
  pub bodies : List (List ℕ)
  pub doubt : List (List ℕ)
  pub holds : Holds live bodies doubt image
  pub journaled : journal_with live bodies ≡ resolved_journal w v committed
  pub told : HasStory net.site v live.version bodies (resolved_view net w v committed)
  pub behind : (doubt ≡ []) ⊎ IsBehind net w v live bodies doubt committed

-- a disk of which a start makes a new journal, or the new journal that a start made
abbrev pub IsUnused : List ℕ → Type 0
IsUnused image = (is_blank_disk image ≡ true) ⊎ Holds new_live [] [] image

-- Before the first start that succeeds: a disk without batches, or the header that a stopped start left, with any gate.
pub record HoldsNothing (net : Network) (w : World) (v : ℕ) (image : List ℕ) : Type 0 where
  pub blank : is_blank (w.journal v) ≡ true
  pub certain : w.in_doubt v ≡ no_doubt
  pub empty : GivesBack net.site v [] (view_of net w v)
  pub unused : IsUnused image ⊎ ((w.interrupted v ≡ true) × ((gate : ℕ) × (image ≡ new_header ++ gate ∷ [])))

-- The image has a checkpoint of the journal, which a stopped start may have made.
pub record HoldsCheckpoint (net : Network) (w : World) (v : ℕ) (image : List ℕ) : Type 0 where
  pub stopped : w.interrupted v ≡ true
  pub committed : Bool
  pub may : MayCheckpoint net w v committed
  pub live : Live
  pub bodies : List (List ℕ)
  pub holds : Holds live bodies [] image
  pub journaled : journal_with live bodies ≡ checkpoint_of net w v committed
  pub told : HasStory net.site v live.version bodies (resolved_view net w v committed)

-- An image that a start of the node may find.
abbrev pub MayFind : Network → World → ℕ → List ℕ → Type 0
MayFind net w v image = HoldsJournal net w v image ⊎ (HoldsCheckpoint net w v image ⊎ HoldsNothing net w v image)

-- A manager that is down is a disk. Each image that a crash may leave of it is one that a start of the node may find. The batch in doubt fits the
-- node's view.
pub record DownStands {K : Type 0} (disk_says : Disk.Ghosts K) (net : Network) (w : World) (v : ℕ) (disk : K) : Type 0 where
  pub down : w.up v ≡ false
  pub honest : IsTrue (disk_says.is_honest disk)
  pub fits : AllFit net (view_of net w v) (w.in_doubt v).batch
  pub images : (i : List ℕ) → disk_says.image disk (disk_says.moment disk) i → MayFind net w v i

abbrev pub StandingStands : {K : Type 0} → Disk.Ghosts K → Network → World → ℕ → Declared → View → Standing K → Type 0
StandingStands disk_says net w v site view (Up journal) = UpStands disk_says net w v site view journal
StandingStands disk_says net w v site view (Down disk) = DownStands disk_says net w v disk
StandingStands disk_says net w v site view Between = ⊥

pub record ManagerStands {K E : Type 0} (disk_says : Disk.Ghosts K) (entropy_says : Entropy.Ghosts E) (net : Network) (w : World) (v : ℕ) (m : ManagerForm K E) : Type 0 where
  pub entropy : EntropyStands entropy_says net w v m.entropy
  pub standing : StandingStands disk_says net w v m.site m.view m.standing

abbrev pub PostStands : {K E : Type 0} → Disk.Ghosts K → Entropy.Ghosts E → Network → World → ℕ → Post K E → Type 0
PostStands disk_says entropy_says net w v (On m) = ManagerStands disk_says entropy_says net w v m
PostStands disk_says entropy_says net w v (Off disk entropy) = EntropyStands entropy_says net w v entropy × DownStands disk_says net w v disk
