-- How octets are opened as a frame of a lane, or refused.
use Rattle.std.specs.Prelude.{◌≡◌, ℕ, ◌+◌, ◌-◌, ◌^◌, List, length, take, drop, slice_index, Result, Ok, Err, IsOk, Bool, nat_lt, ◌==◌, ◌&&◌, ◌||◌, not, ◌⊎◌, if◌then◌else◌}
use Rattle.std.specs.Int.{w16, from_be_bytes}
use Rattle.qkd_base.specs.Lane.{way_number}
use Rattle.qkd_base.specs.declared.lane.Lane.{Lane}
use Rattle.net_model.specs.declared.payload.Payload.{Payload}
use Rattle.frame_codec.specs.Reading.{payload_of}
use Rattle.hop_frames.specs.declared.header.Header.{Header}
use Rattle.hop_frames.specs.declared.opened.Opened.{Opened}
use Rattle.hop_frames.specs.declared.open_refusal.OpenRefusal.{OpenRefusal}
use Rattle.hop_frames.specs.declared.open_refusal.OpenRefusal.TheVariants.{NotAFrame, WrongLane, NoBits, BadTag, NotAPayload, Memory}
use Rattle.hop_frames.specs.Frame.{masked, number_of, hash_key, tag_octets}

infixl 10 ◌>>=◌
abbrev pub ◌>>=◌ : {A B : Type 0} → Result A OpenRefusal → (A → Result B OpenRefusal) → Result B OpenRefusal
(Ok x) >>= f = f x
(Err e) >>= f = Err e

-- the fields of a header
abbrev pub fields_of : List ℕ → Header
fields_of frame = record {
  link = slice_index frame 1;
  way = slice_index frame 2;
  size = from_be_bytes w16 (take 2 (drop 4 frame));
  offset = number_of (drop 8 frame);
}

abbrev pub not_a_frame : Bool → ℕ → Result Header OpenRefusal → Result Header OpenRefusal
not_a_frame fails place read = if fails then Err (NotAFrame place) else read

-- The tests of a frame in their order, each with the place at which it refuses. They test the number of octets, the octets with a fixed
-- value, and the fields.
abbrev pub tested : ℕ → ℕ → ℕ → ℕ → ℕ → Header → Result Header OpenRefusal
tested len version third sixth seventh h =
    not_a_frame (nat_lt len 24) len
    (not_a_frame (not (version == 1)) 0
    (not_a_frame (not (third == 0)) 3
    (not_a_frame (h.size == 0 || not (len == 24 + h.size)) 4
    (not_a_frame (not (sixth == 0 && seventh == 0)) 6
    (not_a_frame (nat_lt h.offset 8 || nat_lt (2 ^ 64 - 1) (h.offset + h.size + 8)) 8 (Ok h))))))

unfoldable pub header_of : List ℕ → Result Header OpenRefusal
header_of frame = tested (length frame) (slice_index frame 0) (slice_index frame 3) (slice_index frame 6) (slice_index frame 7) (fields_of frame)

-- The frame's link and way are those of the lane.
unfoldable pub on_lane : Lane → Header → Result Header OpenRefusal
on_lane lane h = if h.link == lane.link && h.way == way_number lane.way then Ok h else Err (WrongLane h.link h.way)

-- the tag in the frame
abbrev pub given_tag : List ℕ → Header → ℕ
given_tag frame h = number_of (drop (16 + h.size) frame)

abbrev pub computed_tag : List ℕ → List ℕ → Header → ℕ
computed_tag bytes frame h = number_of (tag_octets (hash_key bytes) (take (16 + h.size) frame) (number_of (drop (h.offset + h.size) bytes)))

-- Enough lane bytes were received, and the frame's tag is the one that they give.
unfoldable pub tagged : List ℕ → List ℕ → Header → Result Header OpenRefusal
tagged bytes frame h =
    if nat_lt (length bytes) (h.offset + h.size + 8) then Err (NoBits (length bytes)) else
    if given_tag frame h == computed_tag bytes frame h then Ok h else Err (BadTag (given_tag frame h) (computed_tag bytes frame h))

-- the payload's octets, with the mask taken off
abbrev pub unmasked : List ℕ → List ℕ → Header → List ℕ
unmasked bytes frame h = masked (take h.size (drop 16 frame)) (drop h.offset bytes)

abbrev pub opened_at : ℕ → Result Payload ℕ → Result Opened OpenRefusal
opened_at offset (Ok payload) = Ok (record { offset = offset; payload = payload })
opened_at offset (Err place) = Err (NotAPayload place)

-- all tests of a frame but the payload's
unfoldable pub checked : Lane → List ℕ → List ℕ → Result Header OpenRefusal
checked lane bytes frame = do
  h ← header_of frame
  here ← on_lane lane h
  tagged bytes frame here

-- The frame, opened with the lane bytes received so far, or the reason why it is refused.
unfoldable pub open_of : Lane → List ℕ → List ℕ → Result Opened OpenRefusal
open_of lane bytes frame = do
  h ← checked lane bytes frame
  opened_at h.offset (payload_of (unmasked bytes frame h))

-- A call returns this result. If a frame can be opened, it may instead run out of memory.
abbrev pub Opens : Result Opened OpenRefusal → Result Opened OpenRefusal → Type 0
Opens result read = (result ≡ read) ⊎ ((result ≡ Err Memory) × IsOk read)
