-- What a start returns, and what it leaves on the disk.
use Rattle.std.specs.Prelude.{◌≡◌, ◌≢◌, ◌⊎◌, ℕ, Bool, true, false, IsTrue, List, [], Result, Ok, Err}
use Rattle.std.specs.List.{All}
use Rattle.qkd_base.specs.Faults.{Rose}
use Rattle.range_journal.specs.Header.{is_blank}
use Rattle.journal_records.specs.Grammar.{IsBatch}
use Rattle.journal_records.specs.declared.version.Version.TheVariants.{Second}
use Rattle.net_model.specs.declared.record.Record.{Record}
use Rattle.net_model.specs.Site.{Site}
use Rattle.net_model.specs.View.{View}
use Rattle.net_model.specs.Fold.{recovered_view}
use Rattle.net_model.specs.Journal.{checkpoint_batches, checkpoint_need, checkpoint_place, is_checkpoint_due, recovered_journal}
use Rattle.range_journal.specs.declared.refusal.JournalRefusal.{JournalRefusal}
use Rattle.range_journal.specs.declared.refusal.JournalRefusal.TheVariants as journal
use Rattle.journal_snapshot.specs.declared.live.Live.{Live}
use Rattle.journal_snapshot.specs.Opening.{IsOpened, IsOpening, IsRefusedAt}
use Rattle.journal_snapshot.specs.Snapshots.{SnapshotForm, journal_of, moved_to}
use Rattle.journal_snapshot.specs.Standing.{Holds}
use Rattle.kme_journal.specs.BatchRecovery.{AreReadAs}
use Rattle.kme_journal.specs.Unread.{IsUnreadable}
use Rattle.kme_journal.specs.Putting.{IsPut, checkpoint_bodies}
use Rattle.kme_journal.specs.declared.manager_recovery.Recovered.{Recovered}
use Rattle.kme_journal.specs.declared.refusal.RecoverRefusal.{RecoverRefusal}
use Rattle.kme_journal.specs.declared.refusal.RecoverRefusal.TheVariants.{Stopped, Foreign, Memory}

-- the disk that is given back, whatever the result
abbrev pub disk_in : {K : Type 0} → Result (Recovered K) (RecoverRefusal × K) → K
disk_in (Ok recovered) = recovered.journal.disk
disk_in (Err refusal) = refusal.1

-- whether the disk failed, by the refusal or by the result
abbrev pub is_stop : RecoverRefusal → Bool
is_stop Stopped = true
is_stop (Foreign place) = false
is_stop Memory = false

abbrev pub is_stopped : {T K : Type 0} → Result T (RecoverRefusal × K) → Bool
is_stopped (Ok done) = false
is_stopped (Err refusal) = is_stop refusal.0

-- why a disk wasn't opened, as a refusal of the start
abbrev pub why_of : JournalRefusal → RecoverRefusal
why_of journal.Disk = Stopped
why_of (journal.Foreign place) = Foreign place
why_of journal.Memory = Memory
why_of (journal.JournalFull size need) = Memory

-- replaying the batches of this journal gives this manager
pub record GivesBack {K : Type 0} (site : Site) (me : ℕ) (old : SnapshotForm K) (v : View) : Type 0 where
  pub story : List (List Record)
  pub spelled : AreReadAs old.live.version old.batches story
  pub view : v ≡ recovered_view site me story

-- the journal that a start leaves: with a checkpoint exactly if one is due
pub record IsLeft {K : Type 0} (old : SnapshotForm K) (v : View) (new : SnapshotForm K) : Type 0 where
  pub put : IsPut (is_checkpoint_due (journal_of old) (checkpoint_need v)) old (checkpoint_bodies v) new
  pub journal : journal_of new ≡ recovered_journal (journal_of old) (checkpoint_need v)

-- A crash image has the checkpoint that is due.
pub record HasCheckpoint {K : Type 0} (old : SnapshotForm K) (v : View) (image : List ℕ) : Type 0 where
  pub due : is_checkpoint_due (journal_of old) (checkpoint_need v) ≡ true
  pub spelled : All (IsBatch Second) (checkpoint_batches v)
  pub is : Holds (moved_to old.live (checkpoint_place (journal_of old) (checkpoint_need v))) (checkpoint_bodies v) [] image

-- the result allows that a checkpoint was begun
abbrev pub MayMove : {K : Type 0} → Result (Recovered K) (RecoverRefusal × K) → Type 0
MayMove (Ok recovered) = Unit {0}
MayMove (Err (Stopped, disk)) = Unit {0}
MayMove (Err (Foreign place, disk)) = ⊥
MayMove (Err (Memory, disk)) = ⊥

-- a journal that is open

-- a stop comes from a fault of the disk, and any other refusal leaves the disk untouched
abbrev pub Stops : {K : Type 0} → (K → ℕ) → SnapshotForm K → RecoverRefusal → K → Type 0
Stops faults old Stopped disk = Rose (faults old.disk) (faults disk)
Stops faults old (Foreign place) disk = (disk ≡ old.disk) × IsUnreadable old.live.version old.live.start old.batches place
Stops faults old Memory disk = disk ≡ old.disk

-- a crash image has the batches, or the checkpoint of the manager that results from replaying them
abbrev pub Stands : {K : Type 0} → Site → ℕ → SnapshotForm K → Type 0 → List ℕ → Type 0
Stands site me old may_move image = ((is_blank image ≡ false) × Holds old.live old.batches [] image) ⊎ (may_move × ((v : View) × GivesBack site me old v × HasCheckpoint old v image))

-- a disk whose content was read

abbrev pub Refuses : Bool → List ℕ → ℕ → ℕ → RecoverRefusal → Type 0
Refuses is_honest read before now Stopped = Rose before now
Refuses is_honest read before now (Foreign place) =
    IsTrue is_honest → IsRefusedAt read place ⊎ ((live : Live) × ((bodies : List (List ℕ)) × IsOpened read live bodies × IsUnreadable live.version live.start bodies place))
Refuses is_honest read before now Memory = Unit {0}

-- the journal that was read, the manager that results from replaying it, and the journal that is left
pub record IsRecovered {K : Type 0} (is_honest : Bool) (read : List ℕ) (site : Site) (me : ℕ) (v : View) (new : SnapshotForm K) : Type 0 where
  pub old : SnapshotForm K
  pub opened : IsTrue is_honest → IsOpened read old.live old.batches
  pub back : GivesBack site me old v
  pub left : IsLeft old v new

-- a crash image has the journal that was read
abbrev pub HasRead : List ℕ → List ℕ → Type 0
HasRead read image = (live : Live) × ((bodies : List (List ℕ)) × IsOpened read live bodies × (is_blank image ≡ false) × Holds live bodies [] image)

-- if the disk didn't fail, each crash image was possible before, or has the journal that was read
abbrev pub Leaves : {K : Type 0} → Bool → (K → ℕ) → (K → ℕ → List ℕ → Type 0) → List ℕ → K → RecoverRefusal → K → Type 0
Leaves is_honest moment image read old why now =
    why ≢ Stopped → IsTrue is_honest → (i : List ℕ) → image now (moment now) i → image old (moment old) i ⊎ HasRead read i

-- A crash image is one from the opening of the disk, or has the batches that were read, or has the checkpoint of the manager that results
-- from replaying these.
abbrev pub IsAfter : {K : Type 0} → Site → ℕ → Result (Recovered K) (RecoverRefusal × K) → List ℕ → List ℕ → Type 0
IsAfter {K} site me result read image = IsOpening read image ⊎ ((old : SnapshotForm K) × IsOpened read old.live old.batches × Stands site me old (MayMove result) image)

-- The crash images after a refusal are all of one kind: all were possible before, or all come from the content that was read.
abbrev pub LeavesOneKind : {K : Type 0} → (before left : List ℕ → Type 0) → Site → ℕ → Result (Recovered K) (RecoverRefusal × K) → List ℕ → Type 0
LeavesOneKind {K} before left site me result read = ((i : List ℕ) → left i → before i) ⊎ ((i : List ℕ) → left i → IsAfter {K = K} site me result read i)
