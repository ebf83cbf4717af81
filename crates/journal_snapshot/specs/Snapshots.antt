-- A journal with checkpoints as a value.
use Rattle.std.specs.Prelude.{◌≡◌, ℕ, ◌+◌, ◌-◌, ◌^◌, ◌&&◌, nat_le, nat_lt, if◌then◌else◌, Bool, IsTrue, List, length, sum_by}
use Rattle.net_model.specs.World.{Journal}
use Rattle.net_model.specs.Journal.{checkpoint_place, journal_limit}
use Rattle.range_journal.specs.Batches.{length_of}
use Rattle.journal_snapshot.specs.declared.live.Live.{Live}
use Rattle.journal_snapshot.specs.Layout.{next_area, is_moved, has_open_mark}
use Rattle.journal_snapshot.specs.Standing.{IsKept}

-- the disk, its live area, the batches in order, and for how many octets of a body the memory is allocated
pub record SnapshotForm (K : Type 0) : Type 0 where
  pub disk : K
  pub live : Live
  pub batches : List (List ℕ)
  pub spare : ℕ

-- the network model's journal that it stands for
abbrev pub journal_of : {K : Type 0} → SnapshotForm K → Journal
journal_of s =
    record {
      length' = length_of s.live.start s.batches;
      start = s.live.start;
      generation = s.live.generation;
      moved = is_moved s.live.area;
      version = s.live.version;
    }

-- the octets that a checkpoint with these batches takes
abbrev pub need_of : List (List ℕ) → ℕ
need_of batches = 1 + sum_by (λ b. 5 + length b) batches

abbrev pub fits_in : Journal → ℕ → Bool
fits_in j need = nat_le (checkpoint_place j need + need) journal_limit && nat_lt j.generation (2 ^ 64 - 1)

-- the live area after a checkpoint at this place
abbrev pub moved_to : Live → ℕ → Live
moved_to live place =
    record { area = next_area live.area; start = place; generation = if is_moved live.area then live.generation + 1 else 0; version = 2 }

-- the invariant of the fields
pub record IsSound (is_honest : Bool) (content : List ℕ) (images : List ℕ → Type 0) (start : ℕ) (batches : List (List ℕ)) (live : Live) (older : Bool) : Type 0 where
  pub at : start ≡ live.start
  pub kept : IsTrue is_honest → IsKept live batches content images
  pub mark : IsTrue is_honest → has_open_mark content live.area ≡ older
