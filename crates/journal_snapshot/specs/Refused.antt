-- What an append and a checkpoint return.
use Rattle.std.specs.Prelude.{◌≡◌, ℕ, ◌+◌, Bool, true, false, List, [], ◌∷◌, ◌++◌, length, Result, Ok, Err}
use Rattle.net_model.specs.Journal.{checkpoint_place}
use Rattle.range_journal.specs.Batches.{length_of}
use Rattle.range_journal.specs.declared.refusal.JournalRefusal.{JournalRefusal}
use Rattle.range_journal.specs.declared.refusal.JournalRefusal.TheVariants.{JournalFull, Memory, Disk, Foreign}
use Rattle.journal_snapshot.specs.declared.live.Live.{Live}
use Rattle.journal_snapshot.specs.Snapshots.{SnapshotForm, journal_of, need_of, moved_to}
use Rattle.journal_snapshot.specs.declared.snapshots.SnapRefused.{SnapRefused}
use Rattle.journal_snapshot.specs.declared.snapshots.SnapRefused.TheVariants.{Kept, Spent}

-- the disk, which each answer gives back
abbrev pub disk_after : {K : Type 0} → Result (SnapshotForm K) (SnapRefused K) → K
disk_after (Ok snapshots) = snapshots.disk
disk_after (Err (Kept why snapshots)) = snapshots.disk
disk_after (Err (Spent disk)) = disk

-- the journal with one more batch
pub record IsAdded {K : Type 0} (old : SnapshotForm K) (batch : List ℕ) (new : SnapshotForm K) : Type 0 where
  pub live : new.live ≡ old.live
  pub batches : new.batches ≡ old.batches ++ batch ∷ []
  pub spare : new.spare ≡ 0

-- why an append was refused and the journal kept
abbrev pub Explains : {K : Type 0} → SnapshotForm K → List ℕ → JournalRefusal → Type 0
Explains old batch (JournalFull size need) = (size ≡ length_of old.live.start old.batches) × (need ≡ length batch + 5)
Explains old batch Memory = Unit {0}
Explains old batch Disk = ⊥
Explains old batch (Foreign place) = ⊥

abbrev pub IsAnswer : {K : Type 0} → SnapshotForm K → List ℕ → Result (SnapshotForm K) (SnapRefused K) → Type 0
IsAnswer old batch (Ok new) = IsAdded old batch new
IsAnswer old batch (Err (Kept why new)) = (new ≡ old) × Explains old batch why
IsAnswer old batch (Err (Spent disk)) = Unit {0}

abbrev pub place_of : {K : Type 0} → SnapshotForm K → List (List ℕ) → ℕ
place_of old batches = checkpoint_place (journal_of old) (need_of batches)

-- the journal with these batches in place of the old ones, in an area of their own
pub record IsReplaced {K : Type 0} (old : SnapshotForm K) (batches : List (List ℕ)) (new : SnapshotForm K) : Type 0 where
  pub live : new.live ≡ moved_to old.live (place_of old batches)
  pub now : new.batches ≡ batches
  pub spare : new.spare ≡ 0

-- A checkpoint keeps the old journal only if memory runs out.
abbrev pub IsMoved : {K : Type 0} → SnapshotForm K → List (List ℕ) → Result (SnapshotForm K) (SnapRefused K) → Type 0
IsMoved old batches (Ok new) = IsReplaced old batches new
IsMoved old batches (Err (Kept why new)) = (new ≡ old) × (why ≡ Memory)
IsMoved old batches (Err (Spent disk)) = Unit {0}

-- A checkpoint whose memory was allocated before doesn't keep the old journal.
abbrev pub IsFinished : {K : Type 0} → Live → List (List ℕ) → ℕ → Result (SnapshotForm K) (SnapRefused K) → Type 0
IsFinished live batches place (Ok new) = (new.live ≡ moved_to live place) × (new.batches ≡ batches) × (new.spare ≡ 0)
IsFinished live batches place (Err (Kept why new)) = ⊥
IsFinished live batches place (Err (Spent disk)) = Unit {0}

abbrev pub is_full : {K : Type 0} → Result (SnapshotForm K) (SnapRefused K) → Bool
is_full (Err (Kept (JournalFull size need) new)) = true
is_full _ = false

abbrev pub is_memory : {K : Type 0} → Result (SnapshotForm K) (SnapRefused K) → Bool
is_memory (Err (Kept Memory new)) = true
is_memory _ = false

abbrev pub is_spent : {K : Type 0} → Result (SnapshotForm K) (SnapRefused K) → Bool
is_spent (Err (Spent disk)) = true
is_spent _ = false
