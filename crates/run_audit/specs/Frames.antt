-- The frames that a report's items say were sent.
use Rattle.std.specs.Prelude.{ℕ, suc, ◌+◌, Bool, true, false, not, ◌&&◌, ◌||◌, ◌==◌, nat_le, if◌then◌else◌, List, [], ◌∷◌, Option, Some, None}
use Rattle.std.specs.List.{list_any, list_all, filter_map}
use Rattle.qkd_base.specs.declared.lane.Lane.{Lane}
use Rattle.qkd_base.specs.Lane.{lane_eq}
use Rattle.run_types.specs.declared.item.Item.{Item}
use Rattle.run_types.specs.declared.item.Item.TheVariants as items
use Rattle.run_types.specs.declared.item.NumberedItem.{NumberedItem}
use Rattle.run_audit.specs.declared.frames.Frame.{Frame}

-- how many elements of a list pass a test
abbrev pub how_many : {X : Type 0} → (X → Bool) → List X → ℕ
how_many test [] = 0
how_many test (x ∷ xs) = if test x then suc (how_many test xs) else how_many test xs

abbrev pub frame_of : Item → Option Frame
frame_of (items.Sent l number offset length) = Some (record { lane = l; number = number; offset = offset; length = length })
frame_of _ = None

-- all frames that were sent, the last one first
abbrev pub frames : List NumberedItem → List Frame
frames told = filter_map (λ (t : NumberedItem). frame_of t.item) told

-- how many frames were put on a lane's wire
abbrev pub sent_on : Lane → List Frame → ℕ
sent_on l fs = how_many (λ (f : Frame). lane_eq f.lane l) fs

-- A frame of this number was put on the lane's wire.
abbrev pub was_sent : Lane → ℕ → List Frame → Bool
was_sent l number fs = list_any (λ (f : Frame). lane_eq f.lane l && (f.number == number)) fs

-- The first byte of the lane behind the frame: the frame covers its payload's bytes, and 8 for its tag.
abbrev pub end_of : Frame → ℕ
end_of f = f.offset + f.length + 8

abbrev pub is_apart : Frame → Frame → Bool
is_apart f g = nat_le (end_of f) g.offset || nat_le (end_of g) f.offset

-- Two frames of a lane with the same offset have the same length. Two frames with different offsets have no byte in common.
abbrev pub agrees : Frame → Frame → Bool
agrees f g = not (lane_eq g.lane f.lane) || (if g.offset == f.offset then g.length == f.length else is_apart f g)

-- One of the frames has this offset in the lane.
abbrev pub is_placed : Lane → (offset : ℕ) → List Frame → Bool
is_placed l offset fs = list_any (λ (f : Frame). lane_eq f.lane l && (f.offset == offset)) fs

-- how many different places the frames have
abbrev pub places : List Frame → ℕ
places [] = 0
places (f ∷ fs) = if is_placed f.lane f.offset fs then places fs else suc (places fs)

-- how many bytes of a lane the frames use, each place counted once
abbrev pub used_on : Lane → List Frame → ℕ
used_on l [] = 0
used_on l (f ∷ fs) = if lane_eq f.lane l && not (is_placed f.lane f.offset fs) then f.length + 8 + used_on l fs else used_on l fs
