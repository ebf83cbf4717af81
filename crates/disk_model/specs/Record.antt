-- The record of used calls that a disk in memory keeps, and the images that follow from it.
use Rattle.std.specs.Prelude.{◌≡◌, ℕ, ◌-◌, min, List, [], ◌∷◌, ◌++◌, length, take, drop, map, replicate, Bool, if◌then◌else◌}
use Rattle.disk_model.specs.Images.{Torn, overlaid}
use Rattle.disk_model.specs.declared.arm.Image.{Image}
use Rattle.disk_model.specs.declared.arm.Image.TheVariants.{Lost, Kept, Torn as Filled}

-- A used call. A write has its octets and their place, how many of them are inside the disk since its last revival, and
-- what the disk holds of them. A sync is recorded if it succeeded and there was a write since the last one.
pub data Used : Type 0 where
  Wrote : (at : ℕ) (bytes : List ℕ) (size : ℕ) (state : Image) → Used
  Synced : Used

-- the content after one call, with what the disk holds of that call
abbrev pub held : List ℕ → Used → List ℕ
held content (Wrote at bytes size Lost) = content
held content (Wrote at bytes size Kept) = overlaid at bytes content
held content (Wrote at bytes size Filled) = overlaid at (replicate (min size (length bytes)) 238) content
held content Synced = content

-- the content after these calls
abbrev pub replayed : List ℕ → List Used → List ℕ
replayed content [] = content
replayed content (u ∷ used) = replayed (held content u) used

-- What a crash may leave after these calls. Each write may tear its range in each image that was possible before it.
-- After a sync the content is the only image.
abbrev pub images : (List ℕ → Type 0) → List ℕ → List Used → List ℕ → Type 0
images left content [] image = left image
images left content (Wrote at bytes size state ∷ used) image =
    images (λ new. (old : List ℕ) × left old × Torn at (length bytes) old new) (held content (Wrote at bytes size state)) used image
images left content (Synced ∷ used) image = images (λ only. only ≡ content) content used image

-- the images at a moment, which is counted in used calls
abbrev pub image_of : List ℕ → List Used → ℕ → List ℕ → Type 0
image_of first used moment image = images (λ only. only ≡ first) first (take moment used) image

-- a write as it is recorded after a cut with this image, on a disk that then has `size` octets
abbrev pub marked : Image → ℕ → Used → Used
marked Lost size (Wrote at bytes inside state) = Wrote at bytes (min inside (size - at)) Lost
marked Kept size (Wrote at bytes inside state) = Wrote at bytes inside state
marked Filled size (Wrote at bytes inside state) = Wrote at bytes inside Filled
marked image size Synced = Synced

-- none of these calls is a sync
abbrev pub AreUnsynced : List Used → Type 0
AreUnsynced [] = Unit {0}
AreUnsynced (Wrote at bytes size state ∷ used) = AreUnsynced used
AreUnsynced (Synced ∷ used) = ⊥

-- the calls after a cut: those up to the last sync are unchanged, and each later one is marked with the image
abbrev pub revived : Image → ℕ → ℕ → List Used → List Used
revived image size synced used = take synced used ++ map (marked image size) (drop synced used)

-- the calls after a sync that succeeds; the sync is added if something was unsynced
abbrev pub after_settle : Bool → List Used → List Used
after_settle unsynced used = if unsynced then used ++ Synced ∷ [] else used
