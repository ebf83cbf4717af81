-- Which batches the octets of a disk stand for.
use Rattle.std.specs.Prelude.{◌≡◌, ◌⊎◌, ℕ, true, false, List, [], ◌∷◌, ◌++◌, length, take}
use Rattle.range_journal.specs.Batches.{Stands, StandsBefore, IsSettled}
use Rattle.range_journal.specs.Header.{is_blank, IsHeaded}
use Rattle.journal_snapshot.specs.declared.area.Area.TheVariants.{Header}
use Rattle.journal_snapshot.specs.declared.live.Live.{Live}
use Rattle.journal_snapshot.specs.Layout.{live_of, is_placed}

-- An image has this live area, and these batches are read from its start on.
pub record HasBatches (live : Live) (batches : List (List ℕ)) (image : List ℕ) : Type 0 where
  pub head : IsHeaded image
  pub says : live_of image ≡ live
  pub placed : is_placed image (length image) ≡ true
  pub stands : Stands (take live.start image) batches image

-- An image holds these batches: it has them in this live area, with a closed gate after them. If one more batch is in doubt, it
-- is enough that the gate isn't open.
pub record Holds (live : Live) (batches doubt : List (List ℕ)) (image : List ℕ) : Type 0 where
  pub head : IsHeaded image
  pub says : live_of image ≡ live
  pub placed : is_placed image (length image) ≡ true
  pub stands : StandsBefore (take live.start image) batches doubt image

-- the batches that the octets of a disk stand for
abbrev pub StandsFor : List ℕ → List (List ℕ) → Type 0
StandsFor content batches = ((is_blank content ≡ true) × (batches ≡ [])) ⊎ ((is_blank content ≡ false) × HasBatches (live_of content) batches content)

-- the old batches with the new one in doubt, or the old batches and the new one
abbrev pub HoldsOldOrOneMore : Live → List (List ℕ) → List ℕ → List ℕ → Type 0
HoldsOldOrOneMore live batches batch image = Holds live batches (batch ∷ []) image ⊎ Holds live (batches ++ batch ∷ []) [] image

-- the batches before the one in doubt, or these and the one in doubt
abbrev pub HoldsOldOrDoubt : Live → List (List ℕ) → List (List ℕ) → List ℕ → Type 0
HoldsOldOrDoubt live batches doubt image =
    Holds live batches doubt image ⊎ ((batch : List ℕ) × (doubt ≡ batch ∷ []) × Holds live (batches ++ batch ∷ []) [] image)

-- the live area of a new disk
abbrev pub new_live : Live
new_live = record { area = Header; start = 16; generation = 0; version = 2 }

-- The content has this live area with these batches and a closed gate after them. It isn't blank, and it is the disk's only
-- image.
pub record IsKept (live : Live) (batches : List (List ℕ)) (content : List ℕ) (images : List ℕ → Type 0) : Type 0 where
  pub plain : is_blank content ≡ false
  pub holds : Holds live batches [] content
  pub settled : IsSettled content images live.start batches
