-- What a checkpoint writes, and what a crash during it leaves.
use Rattle.std.specs.Prelude.{◌≡◌, ◌⊎◌, ◌≤◌, ℕ, ◌+◌, ◌-◌, ◌^◌, Bool, true, if◌then◌else◌, IsTrue, List, [], ◌∷◌, ◌++◌, length, replicate}
use Rattle.disk_model.specs.Images.{Torn, Only, overlaid}
use Rattle.disk_model.specs.declared.allowance.Allowance.{Allowance}
use Rattle.range_journal.specs.Batches.{spelled, length_of}
use Rattle.journal_snapshot.specs.declared.live.Live.{Live}
use Rattle.journal_snapshot.specs.Layout.{next_area, is_moved, is_slot, has_open_mark, mark_place, open_mark, fields_place, fields_of}
use Rattle.journal_snapshot.specs.Standing.{IsKept}
use Rattle.journal_snapshot.specs.Snapshots.{need_of, moved_to}

abbrev pub next_generation : Live → ℕ
next_generation live = if is_moved live.area then live.generation + 1 else 0

-- the mark, which makes the next area the live one, and the fields that say its start
abbrev pub mark_of : Live → ℕ
mark_of live = mark_place (next_area live.area)

abbrev pub fields_at : Live → ℕ
fields_at live = fields_place (next_area live.area)

abbrev pub fields_in : Live → ℕ → List ℕ
fields_in live place = fields_of (next_area live.area) (next_generation live) place

-- The mark is cleared if it is open.
abbrev pub cleared : Bool → ℕ → List ℕ → List ℕ
cleared older mark c = if older then overlaid mark (0 ∷ []) c else c

abbrev pub IsClearing : Bool → ℕ → List ℕ → List ℕ → Type 0
IsClearing older mark c i = (i ≡ c) ⊎ ((older ≡ true) × Torn mark 1 c i)

-- Two ranges were written without a sync between them.
pub record TornTwice (at n place m : ℕ) (old new : List ℕ) : Type 0 where
  pub mid : List ℕ
  pub first : Torn at n old mid
  pub second : Torn place m mid new

-- The area and its fields are written.
abbrev pub drawn : Live → ℕ → List ℕ → ℕ → List ℕ → List ℕ
drawn live at block place c = overlaid (fields_at live) (fields_in live place) (overlaid at block c)

abbrev pub IsDrawing : Live → ℕ → List ℕ → ℕ → List ℕ → List ℕ → Type 0
IsDrawing live at block place c i = TornTwice at (length block) (fields_at live) (length (fields_in live place)) c i

-- The whole checkpoint is written, including the mark.
abbrev pub marked : Live → Bool → ℕ → List ℕ → ℕ → List ℕ → List ℕ
marked live older at block place c = overlaid (mark_of live) (open_mark (next_area live.area) ∷ []) (drawn live at block place (cleared older (mark_of live) c))

abbrev pub IsStage : Live → Bool → ℕ → List ℕ → ℕ → List ℕ → List ℕ → Type 0
IsStage live older at block place c i =
    IsClearing older (mark_of live) c i
    ⊎ (IsDrawing live at block place (cleared older (mark_of live) c) i ⊎ Torn (mark_of live) 1 (drawn live at block place (cleared older (mark_of live) c)) i)

-- the memory for the writes of a checkpoint
pub record HasRoom (a : Allowance) (end octets : ℕ) : Type 0 where
  pub granted : IsTrue a.granted
  pub reach : end ≤ a.reach
  pub left : octets + 18 ≤ a.left
  pub used : a.used ≤ 3

-- The area of a checkpoint at a place doesn't overlap the live area. If it doesn't begin right after the journal, zeros stand
-- before it.
pub record IsDraft (live : Live) (batches more : List (List ℕ)) (at place : ℕ) (block : List ℕ) : Type 0 where
  pub before : at ≤ place
  pub fifty : 50 ≤ place
  pub limit : place + need_of more ≤ 2 ^ 25
  pub apart : ((is_moved live.area ≡ true) × (50 ≤ at) × (place + need_of more ≤ live.start)) ⊎ (at ≡ length_of live.start batches)
  pub is : block ≡ replicate (place - at) 0 ++ (spelled more ++ 0 ∷ [])

-- A disk on which this checkpoint may be written. All places that it writes are on the disk, and afterwards the disk has the
-- new area.
pub record IsReady (live : Live) (older : Bool) (at : ℕ) (block : List ℕ) (place : ℕ) (more : List (List ℕ)) (c : List ℕ) (images : List ℕ → Type 0) : Type 0 where
  pub only : Only c images
  pub spots : (mark_of live + 1 ≤ length c) × (fields_at live + length (fields_in live place) ≤ length c) × (at ≤ length c)
  pub leaves : IsKept (moved_to live place) more (marked live older at block place c) (λ i. i ≡ marked live older at block place c)
  pub mark : has_open_mark (marked live older at block place c) (next_area live.area) ≡ is_slot live.area
