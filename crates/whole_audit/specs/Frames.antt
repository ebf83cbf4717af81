-- Rule 14, as to bytes and lengths: what comes is the frame that was put on the wire under its number.
use Rattle.std.specs.Prelude.{ℕ, ◌+◌, ◌*◌, ◌==◌, Bool, true, false, ◌&&◌, ◌||◌, nat_le, nat_lt, if◌then◌else◌, List, [], ◌∷◌, Option, Some, None}
use Rattle.qkd_base.specs.declared.lane.Lane.{Lane}
use Rattle.qkd_base.specs.Lane.{lane_eq, reverse_lane}
use Rattle.run_types.specs.declared.refusal.Refusal.{Refusal}
use Rattle.run_types.specs.declared.refusal.Refusal.TheVariants as refusals
use Rattle.run_types.specs.declared.frame_result.FrameResult.{FrameResult}
use Rattle.run_types.specs.declared.frame_result.FrameResult.TheVariants as results
use Rattle.run_types.specs.declared.item.Item.{Item}
use Rattle.run_types.specs.declared.item.Item.TheVariants as items
use Rattle.run_types.specs.declared.item.NumberedItem.{NumberedItem}
use Rattle.run_audit.specs.Ledgers.{received_in}
use Rattle.item_audit.specs.Lengths.{fits_length}
use Rattle.whole_audit.specs.declared.frames.Put.{Put}
use Rattle.whole_audit.specs.Blocks.{count_of}
use Rattle.whole_audit.specs.Tracks.{come_lane}

-- ---- the frames of wires

abbrev pub put_of : Item → Option Put
put_of (items.Sent l number offset length) = Some (record { lane = l; number = number; offset = offset; length = length })
put_of _ = None

abbrev pub is_frame : Lane → (number : ℕ) → Option Put → Bool
is_frame l n None = false
is_frame l n (Some p) = lane_eq p.lane l && (p.number == n)

-- the frame that was put on the wire last under this number
abbrev pub frame_at : Lane → (number : ℕ) → List NumberedItem → Option Put
frame_at l n [] = None
frame_at l n (t ∷ before) = if is_frame l n (put_of t.item) then put_of t.item else frame_at l n before

-- ---- what may become of a frame

-- A frame uses the bytes of its payload, and 8 for its tag.
abbrev pub end_of : Put → ℕ
end_of p = p.offset + p.length + 8

-- A frame has 24 octets besides its payload.
abbrev pub bits_of : Put → ℕ
bits_of p = 8 * (24 + p.length)

-- A receiver that may have `most` bytes of the lane lacks some exactly where it says so.
abbrev pub may_refuse_frame : (most : ℕ) → Put → Refusal → Bool
may_refuse_frame most p refusals.Down = true
may_refuse_frame most p (refusals.NoFrame count) = true
may_refuse_frame most p (refusals.NoBit bits) = true
may_refuse_frame most p (refusals.NoBits have) = nat_lt have (end_of p)
may_refuse_frame most p _ = nat_le (end_of p) most

abbrev pub fits_bytes : (most : ℕ) → Put → FrameResult → Bool
fits_bytes most p (results.Refused refusal) = may_refuse_frame most p refusal
fits_bytes most p _ = nat_le (end_of p) most

-- A bit that the frame hasn't is refused as such, and no other.
abbrev pub fits_bit : (bit : ℕ) → Put → FrameResult → Bool
fits_bit bit p (results.Refused (refusals.NoFrame count)) = true
fits_bit bit p (results.Refused (refusals.NoBit bits)) = bits == bits_of p
fits_bit bit p _ = nat_lt bit (bits_of p)

-- The first 128 bits of a frame are its head.
abbrev pub fits_put : (most : ℕ) → Put → Item → Bool
fits_put most p (items.Passed l number result) = fits_bytes most p result && fits_length p.length result
fits_put most p (items.Flipped l number bit result) = fits_bit bit p result && (nat_lt bit 128 || fits_bytes most p result)
fits_put most p _ = true

abbrev pub fits_frame : (most : ℕ) → Option Put → Item → Bool
fits_frame most None item = true
fits_frame most (Some p) item = fits_put most p item

-- ---- the rule

abbrev pub come_number : Item → ℕ
come_number (items.Passed l number result) = number
come_number (items.Flipped l number bit result) = number
come_number _ = 0

-- the most bytes of the lane that its receiver may have
abbrev pub most_at_end : Lane → List NumberedItem → ℕ
most_at_end l before = received_in l.way (count_of (reverse_lane l) before).most

abbrev pub comes_whole_at : Option Lane → Item → List NumberedItem → Bool
comes_whole_at None item before = true
comes_whole_at (Some l) item before = fits_frame (most_at_end l before) (frame_at l (come_number item) before) item

abbrev pub comes_whole : List NumberedItem → Item → Bool
comes_whole before item = comes_whole_at (come_lane item) item before
