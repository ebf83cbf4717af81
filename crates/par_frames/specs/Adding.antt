-- Adding a frame to the record.
use Rattle.std.specs.Prelude.{◌≡◌, ℕ, ◌==◌, ◌&&◌, ◌||◌, nat_lt, nat_le, suc, zero, Bool, List, [], ◌∷◌, ◌++◌, length, map, slice_get, slice_set, Some, if◌then◌else◌}
use Rattle.net_model.specs.declared.placing.Placing.{Placing}
use Rattle.par_frames.specs.declared.log.Log.{Log}
use Rattle.par_frames.specs.declared.log.Refused.{Refused}

-- The first frame comes before the second, or has the same offset and place.
abbrev pub is_first : Refused → Refused → Bool
is_first a b = nat_lt a.offset b.offset || ((a.offset == b.offset) && nat_le a.frame.place b.frame.place)

-- the number of frames at the front of the list that come before x

abbrev pub place_behind : Refused → List Refused → ℕ
place_behind x [] = zero
place_behind x (y ∷ ys) = if is_first y x then suc (place_behind x ys) else zero

abbrev pub put_behind : Refused → List Refused → List Refused
put_behind x [] = x ∷ []
put_behind x (y ∷ ys) = if is_first y x then y ∷ put_behind x ys else x ∷ y ∷ ys

-- A frame that the wire took follows the others that it took. A refused frame gets its place among the refused ones. The frame's sender notes it.
pub record IsAdded (node : ℕ) (placing : Placing) (took : Bool) (refused : Refused) (old new : Log) : Type 0 where
  pub frames : new.frames.items ≡ old.frames.items ++ (if took then refused.frame ∷ [] else [])
  pub refused' : new.refused.items ≡ (if took then old.refused.items else put_behind refused old.refused.items)
  pub before : List Placing
  pub there : slice_get old.placings.items node ≡ Some before
  pub placings : new.placings.items ≡ slice_set old.placings.items node (before ++ placing ∷ [])

-- The frames that a lane's wire refused follow those that it took.
pub record IsEnded (old new : Log) : Type 0 where
  pub frames : new.frames.items ≡ old.frames.items ++ map (λ (r : Refused). r.frame) old.refused.items
  pub refused' : new.refused.items ≡ []
  pub placings : new.placings.items ≡ old.placings.items

-- The record is empty.
pub record IsEmpty (nodes : ℕ) (log : Log) : Type 0 where
  pub frames : log.frames.items ≡ []
  pub refused' : log.refused.items ≡ []
  pub nodes' : length log.placings.items ≡ nodes
  pub none : (v : ℕ) (xs : List Placing) → slice_get log.placings.items v ≡ Some xs → xs ≡ []
