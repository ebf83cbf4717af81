-- What passes tell of frames: the kind of a payload, and its name.
use Rattle.std.specs.Prelude.{ℕ, Bool, not, ◌&&◌, ◌||◌, ◌==◌, if◌then◌else◌, List, [], ◌∷◌, Option, Some, None}
use Rattle.std.specs.List.{cons_option}
use Rattle.qkd_base.specs.declared.lane.Lane.{Lane}
use Rattle.qkd_base.specs.Lane.{lane_eq}
use Rattle.qkd_base.specs.Name.{Name, name_eq}
use Rattle.run_types.specs.declared.payload_kind.PayloadKind.{PayloadKind}
use Rattle.run_types.specs.declared.payload_kind.PayloadKind.TheVariants as payloads
use Rattle.run_types.specs.declared.frame_result.FrameResult.{FrameResult}
use Rattle.run_types.specs.declared.frame_result.FrameResult.TheVariants as results
use Rattle.run_types.specs.declared.item.Item.{Item}
use Rattle.run_types.specs.declared.item.Item.TheVariants as items
use Rattle.run_types.specs.declared.item.NumberedItem.{NumberedItem}
use Rattle.run_audit.specs.declared.frames.Frame.{Frame}
use Rattle.run_audit.specs.declared.contents.Content.{Content}
use Rattle.run_audit.specs.Frames.{frames}

-- the offset of the frame of this number on the lane's wire
abbrev pub offset_of : Lane → (number : ℕ) → List Frame → Option ℕ
offset_of l number [] = None
offset_of l number (f ∷ fs) = if lane_eq f.lane l && (f.number == number) then Some f.offset else offset_of l number fs

-- the kind and the name of a frame that its receiver tells
abbrev pub told_by : FrameResult → Option (PayloadKind × Name)
told_by (results.Taken kind name) = Some (kind, name)
told_by (results.Again kind name) = Some (kind, name)
told_by (results.Refused refusal) = None

abbrev pub content_with : Lane → (offset : ℕ) → Option (PayloadKind × Name) → Option Content
content_with l offset None = None
content_with l offset (Some told) = Some (record { lane = l; offset = offset; kind = told.0; name = told.1 })

-- what a receiver's answer tells of the frame at an offset, if there is one
abbrev pub content_at : Lane → (offset : Option ℕ) → FrameResult → Option Content
content_at l None result = None
content_at l (Some offset) result = content_with l offset (told_by result)

-- What a pass tells of a frame that was sent. A frame with a changed bit may be taken for the frame of another offset, so it tells nothing.
abbrev pub content_of : Item → List Frame → Option Content
content_of (items.Passed l number result) fs = content_at l (offset_of l number fs) result
content_of _ fs = None

-- all that passes tell of frames, the last one first
abbrev pub contents : List NumberedItem → List Content
contents [] = []
contents (t ∷ before) = cons_option (content_of t.item (frames before)) (contents before)

-- the number of a kind of payload
abbrev pub payload_number : PayloadKind → ℕ
payload_number payloads.Key = 1
payload_number payloads.Stored = 2
payload_number payloads.Ack = 3
payload_number payloads.Open = 4
payload_number payloads.Joined = 5
payload_number payloads.Chunk = 6
payload_number payloads.Part = 7

abbrev pub is_like : Content → Content → Bool
is_like c d = (payload_number d.kind == payload_number c.kind) && name_eq d.name c.name

-- Of the frames at one offset of a lane, one kind and one name are told.
abbrev pub matches : Content → Content → Bool
matches c d = not (lane_eq d.lane c.lane && (d.offset == c.offset)) || is_like c d
