-- What opening a disk returns.
use Rattle.std.specs.Prelude.{◌≡◌, ◌⊎◌, ℕ, Bool, true, false, IsTrue, List, [], length, Result, Ok, Err, IfOk, IfErr}
use Rattle.qkd_base.specs.Faults.{Rose}
use Rattle.disk_model.specs.Images.{AtEachMoment}
use Rattle.range_journal.specs.Closing.{HasOtherGate}
use Rattle.range_journal.specs.Header.{is_blank, IsHeaded, HasOtherHead}
use Rattle.range_journal.specs.Opening.{IsMadeNew}
use Rattle.range_journal.specs.Reading.{IsForeign}
use Rattle.range_journal.specs.declared.refusal.JournalRefusal.{JournalRefusal}
use Rattle.range_journal.specs.declared.refusal.JournalRefusal.TheVariants.{JournalFull, Memory, Disk, Foreign}
use Rattle.journal_snapshot.specs.declared.live.Live.{Live}
use Rattle.journal_snapshot.specs.Layout.{area_of, live_of, is_placed, version_place}
use Rattle.journal_snapshot.specs.Standing.{HasBatches, new_live}
use Rattle.journal_snapshot.specs.Snapshots.{SnapshotForm}

-- the disk, which each answer gives back
abbrev pub disk_in : {K : Type 0} → Result (SnapshotForm K) (JournalRefusal × K) → K
disk_in (Ok snapshots) = snapshots.disk
disk_in (Err refusal) = refusal.1

-- a new journal on a blank disk, or else the live area and the batches that the content stands for
abbrev pub IsOpened : List ℕ → Live → List (List ℕ) → Type 0
IsOpened read live batches =
    ((is_blank read ≡ true) × (live ≡ new_live) × (batches ≡ [])) ⊎ ((is_blank read ≡ false) × (live ≡ live_of read) × HasBatches live batches read)

-- The start field of the live area has an unknown version, or a start where no area can be.
abbrev pub HasOtherField : List ℕ → ℕ → Type 0
HasOtherField content place = (is_placed content (length content) ≡ false) × (place ≡ version_place (area_of content))

-- There are no batches from the start of the live area on.
abbrev pub HasNoBatches : List ℕ → ℕ → Type 0
HasNoBatches content place = (is_placed content (length content) ≡ true) × IsForeign content (live_of content).start place

-- why a content is no journal's, and at which place
abbrev pub IsRefusedAt : List ℕ → ℕ → Type 0
IsRefusedAt content place = (is_blank content ≡ false) × (HasOtherHead content place ⊎ (IsHeaded content × (HasOtherField content place ⊎ HasNoBatches content place)))

abbrev pub Refuses : Bool → List ℕ → ℕ → ℕ → JournalRefusal → Type 0
Refuses is_honest content before now Disk = Rose before now
Refuses is_honest content before now Memory = Unit {0}
Refuses is_honest content before now (JournalFull size need) = ⊥
Refuses is_honest content before now (Foreign place) = IsTrue is_honest → IsRefusedAt content place

-- The live area is unchanged, but a gate after its batches that was neither open nor 00 may differ.
pub record IsClosing (content image : List ℕ) : Type 0 where
  pub plain : is_blank content ≡ false
  pub head : IsHeaded image
  pub says : live_of image ≡ live_of content
  pub placed : is_placed image (length image) ≡ true
  pub gate : HasOtherGate (live_of content).start content image

-- what a crash leaves while a disk of this content is being opened
abbrev pub IsOpening : List ℕ → List ℕ → Type 0
IsOpening content image = (image ≡ content) ⊎ (IsClosing content image ⊎ IsMadeNew content image)

-- Either each image left was there before, or each image left is one that a crash leaves while a disk of this content is being
-- opened.
abbrev pub LeavesOneKind : (before left : List ℕ → Type 0) → List ℕ → Type 0
LeavesOneKind before left read = ((i : List ℕ) → left i → before i) ⊎ ((i : List ℕ) → left i → IsOpening read i)

-- The journal is opened from one of the disk's images. What a refusal leaves is of one of these two kinds.
pub record Opens {K : Type 0} (is_honest : K → Bool) (moment : K → ℕ) (image : K → ℕ → List ℕ → Type 0) (faults : K → ℕ) (disk : K) (result : Result (SnapshotForm K) (JournalRefusal × K)) (read : List ℕ) : Type 0 where
  pub was : IsTrue (is_honest disk) → image disk (moment disk) read
  pub opened : IfOk result (λ s. (s.spare ≡ 0) × (IsTrue (is_honest disk) → IsOpened read s.live s.batches))
  pub refused : IfErr result (λ e. Refuses (is_honest disk) read (faults disk) (faults e.1) e.0)
  pub moments : AtEachMoment moment image disk (disk_in result) (λ i. IsTrue (is_honest disk) → image disk (moment disk) i ⊎ IsOpening read i)
  pub last : IfErr result (λ e. IsTrue (is_honest disk) → LeavesOneKind (image disk (moment disk)) (image e.1 (moment e.1)) read)
