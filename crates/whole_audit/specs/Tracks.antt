-- Rules 10 and 14, as to lanes: frames follow each other without a gap, and what comes was put on the wire.
use Rattle.std.specs.Prelude.{ℕ, ◌+◌, ◌-◌, ◌^◌, ◌==◌, Bool, true, false, not, ◌&&◌, ◌||◌, nat_le, nat_lt, min, max, if◌then◌else◌, List, [], ◌∷◌, Option, Some, None}
use Rattle.qkd_base.specs.declared.lane.Lane.{Lane}
use Rattle.run_types.specs.declared.frame_result.FrameResult.{FrameResult}
use Rattle.run_types.specs.declared.frame_result.FrameResult.TheVariants as results
use Rattle.run_types.specs.declared.refusal.Refusal.TheVariants as refusals
use Rattle.run_types.specs.declared.entry.Entry.{Entry}
use Rattle.run_types.specs.declared.entry.Entry.TheVariants as entries
use Rattle.run_types.specs.declared.scenario.Scenario.{Scenario}
use Rattle.run_types.specs.declared.item.Item.{Item}
use Rattle.run_types.specs.declared.item.Item.TheVariants as items
use Rattle.run_types.specs.declared.item.NumberedItem.{NumberedItem}
use Rattle.whole_audit.specs.declared.tracks.Track.{Track}
use Rattle.whole_audit.specs.Blocks.{is_lane}
use Rattle.item_audit.specs.Gifts.{bounded}
use Rattle.whole_audit.specs.Order.{left}
use Rattle.item_audit.specs.Sayings.{sender}
use Rattle.whole_audit.specs.Managers.{was_started}

-- The first 8 bytes of a lane are its hash key.
abbrev pub no_track : Track
no_track = record { end = 8; is_told = true; count = 0 }

-- A frame that the wire refused has a length that isn't told.
abbrev pub behind_frame : Item → Track → Track
behind_frame (items.Sent l number offset length) k = record k { end = max k.end (bounded (offset + length + 8)); count = min (number + 1) (2 ^ 64 - 1) }
behind_frame (items.Unsent l offset cause) k = record k { is_told = false }
behind_frame _ k = k

abbrev pub frame_lane : Item → Option Lane
frame_lane (items.Sent l number offset length) = Some l
frame_lane (items.Unsent l offset cause) = Some l
frame_lane _ = None

abbrev pub track_of : Lane → List NumberedItem → Track
track_of l [] = no_track
track_of l (t ∷ before) = if is_lane l (frame_lane t.item) then behind_frame t.item (track_of l before) else track_of l before

-- ---- rule 10

abbrev pub offset_of : Item → ℕ
offset_of (items.Sent l number offset length) = offset
offset_of (items.Unsent l offset cause) = offset
offset_of _ = 0

-- The frame begins where those before it end, or earlier, where it was put before.
abbrev pub reaches : (offset : ℕ) → Track → Bool
reaches offset k = not k.is_told || nat_le offset k.end

abbrev pub reaches_at : Option Lane → Item → List NumberedItem → Bool
reaches_at None item before = true
reaches_at (Some l) item before = reaches (offset_of item) (track_of l before)

-- The first of the entries that are left is a block.
abbrev pub begins_block : Option Entry → Bool
begins_block None = false
begins_block (Some (entries.Line l)) = false
begins_block (Some (entries.Block ls)) = true

abbrev pub first_entry : Option (List Entry) → Option Entry
first_entry None = None
first_entry (Some []) = None
first_entry (Some (e ∷ es)) = Some e

-- The item stands in a block, whose frames may be put in any order.
abbrev pub in_block : Scenario → List NumberedItem → NumberedItem → Bool
in_block s before t = begins_block (first_entry (left s (t ∷ before)))

abbrev pub was_started_at : Scenario → Option Lane → List NumberedItem → Bool
was_started_at s None before = false
was_started_at s (Some l) before = was_started s (sender s.site l) before

-- A sender that was started begins behind what it had leased.
abbrev pub has_no_gap : Scenario → List NumberedItem → NumberedItem → Bool
has_no_gap s before t = in_block s before t || was_started_at s (frame_lane t.item) before || reaches_at (frame_lane t.item) t.item before

-- ---- rules 11 and 17

-- What is unused lies behind all frames.
abbrev pub leaves : (unused received : ℕ) → Track → Bool
leaves unused received k = (received == 0) || nat_le (k.end + unused) received

-- A lane that lacks bytes has used those up to its last frame's end, and none where it has none.
abbrev pub has_used : (used received : ℕ) → Track → Bool
has_used used received k = if received == 0 then used == 0 else nat_le k.end used && nat_le used received

-- ---- rule 14

abbrev pub come_lane : Item → Option Lane
come_lane (items.Passed l number result) = Some l
come_lane (items.Flipped l number bit result) = Some l
come_lane _ = None

-- The wire has the frame, unless it says how many it has.
abbrev pub has_come : (number : ℕ) → FrameResult → (count : ℕ) → Bool
has_come number (results.Refused (refusals.NoFrame told)) count = (told == count) && nat_le count number
has_come number result count = nat_lt number count

abbrev pub comes_from : Item → (count : ℕ) → Bool
comes_from (items.Passed l number result) count = has_come number result count
comes_from (items.Flipped l number bit result) count = has_come number result count
comes_from _ count = true

abbrev pub comes_at : Option Lane → Item → List NumberedItem → Bool
comes_at None item before = true
comes_at (Some l) item before = comes_from item (track_of l before).count

abbrev pub comes_rightly : List NumberedItem → Item → Bool
comes_rightly before item = comes_at (come_lane item) item before
