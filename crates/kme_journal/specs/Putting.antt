-- A checkpoint in place of a journal's batches.
use Rattle.std.specs.Prelude.{◌≡◌, ◌⊎◌, ℕ, Bool, true, false, List, [], map, Result, Ok, Err, if◌then◌else◌}
use Rattle.net_model.specs.Journal.{checkpoint_batches, checkpointed}
use Rattle.net_model.specs.View.{View}
use Rattle.range_journal.specs.Header.{is_blank}
use Rattle.journal_records.specs.Grammar.{body_octets}
use Rattle.journal_records.specs.declared.version.Version.TheVariants.{Second}
use Rattle.journal_snapshot.specs.declared.live.Live.{Live}
use Rattle.journal_snapshot.specs.Snapshots.{SnapshotForm, journal_of, need_of, moved_to}
use Rattle.journal_snapshot.specs.Refused.{place_of}
use Rattle.journal_snapshot.specs.Standing.{Holds}
use Rattle.kme_journal.specs.declared.refusal.RecoverRefusal.{RecoverRefusal}
use Rattle.kme_journal.specs.declared.refusal.RecoverRefusal.TheVariants.{Stopped, Foreign, Memory}

-- the bodies of a checkpoint
abbrev pub checkpoint_bodies : View → List (List ℕ)
checkpoint_bodies v = map (body_octets Second) (checkpoint_batches v)

-- the disk that is given back, whatever the result
abbrev pub disk_of : {K W : Type 0} → Result (SnapshotForm K) (W × K) → K
disk_of (Ok snapshots) = snapshots.disk
disk_of (Err refusal) = refusal.1

-- the checkpoint replaces the old batches if it is made, and nothing changes if it isn't
pub record IsPut {K : Type 0} (made : Bool) (old : SnapshotForm K) (bodies : List (List ℕ)) (new : SnapshotForm K) : Type 0 where
  pub live : new.live ≡ (if made then moved_to old.live (place_of old bodies) else old.live)
  pub batches : new.batches ≡ (if made then bodies else old.batches)
  pub journal : journal_of new ≡ (if made then checkpointed (journal_of old) (need_of bodies) else journal_of old)

-- a crash image has the old batches, and isn't blank if no checkpoint is made; or it has the checkpoint that is made
abbrev pub HoldsEither : Bool → Type 0 → Live → List (List ℕ) → ℕ → List (List ℕ) → List ℕ → Type 0
HoldsEither made spelled live old place bodies image = ((made ≡ false → is_blank image ≡ false) × Holds live old [] image) ⊎ ((made ≡ true) × spelled × Holds (moved_to live place) bodies [] image)

-- a stop comes from a fault of the disk, and if memory runs out, the disk isn't touched
abbrev pub IsStopped : {K : Type 0} → K → Type 0 → RecoverRefusal → K → Type 0
IsStopped disk rose Stopped now = rose
IsStopped disk rose (Foreign place) now = ⊥
IsStopped disk rose Memory now = now ≡ disk
