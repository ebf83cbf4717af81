-- Rule 14, as to heads: for what octets are refused before a receiver looks at their tag. Octet 0 is the version, 1 and 2 are the
-- lane, 3 is zero, 4 and 5 are the length, 6 and 7 are zero, 8 to 15 are the offset. The payload and a tag of 8 octets follow.
use Rattle.std.specs.Prelude.{ℕ, ◌+◌, ◌-◌, ◌^◌, ◌==◌, ◌/◌, ◌%◌, Bool, true, false, not, ◌&&◌, ◌||◌, nat_lt, List, length, take, drop, slice_index, if◌then◌else◌}
use Rattle.std.specs.Int.{w16, w64, from_be_bytes}
use Rattle.qkd_base.specs.declared.lane.Lane.{Lane}
use Rattle.qkd_base.specs.Lane.{way_number}
use Rattle.run_types.specs.declared.refusal.Refusal.{Refusal}
use Rattle.run_types.specs.declared.refusal.Refusal.TheVariants as refusals
use Rattle.run_types.specs.declared.frame_result.FrameResult.{FrameResult}
use Rattle.run_types.specs.declared.frame_result.FrameResult.TheVariants as results

-- ---- octets that anybody could have made

abbrev pub short_of : (octets : List ℕ) → ℕ
short_of os = from_be_bytes w16 (take 2 os)

abbrev pub number_of : (octets : List ℕ) → ℕ
number_of os = from_be_bytes w64 (take 8 os)

abbrev pub length_in : (octets : List ℕ) → ℕ
length_in os = short_of (drop 4 os)

abbrev pub offset_in : (octets : List ℕ) → ℕ
offset_in os = number_of (drop 8 os)

abbrev pub tag_in : (octets : List ℕ) → ℕ
tag_in os = number_of (drop (16 + length_in os) os)

-- A manager that is down looks at no octets.
abbrev pub is_bad_frame : (place : ℕ) → FrameResult → Bool
is_bad_frame place (results.Refused refusals.Down) = true
is_bad_frame place (results.Refused (refusals.BadFrame told)) = told == place
is_bad_frame place _ = false

abbrev pub is_wrong_lane : (link way : ℕ) → FrameResult → Bool
is_wrong_lane link way (results.Refused refusals.Down) = true
is_wrong_lane link way (results.Refused (refusals.WrongLane k w)) = (k == link) && (w == way)
is_wrong_lane link way _ = false

-- A frame that uses the first `end` bytes of its lane may be refused so.
abbrev pub may_refuse_opening : (end tag : ℕ) → Refusal → Bool
may_refuse_opening end tag refusals.Down = true
may_refuse_opening end tag (refusals.NoBits have) = nat_lt have end
may_refuse_opening end tag (refusals.BadTag given computed) = (given == tag) && not (given == computed)
may_refuse_opening end tag refusals.Memory = true
may_refuse_opening end tag (refusals.JournalFull length need) = true
may_refuse_opening end tag refusals.Stopped = true
may_refuse_opening end tag _ = false

abbrev pub opens : (end tag : ℕ) → FrameResult → Bool
opens end tag (results.Refused refusal) = may_refuse_opening end tag refusal
opens end tag _ = true

-- The octets are as many as a frame's. Their offset and lane are tested last.
unfoldable pub forges_place : Lane → (octets : List ℕ) → (offset size : ℕ) → FrameResult → Bool
forges_place l os offset size result =
    if nat_lt offset 8 || nat_lt (2 ^ 64 - 1) (offset + size + 8) then is_bad_frame 8 result
    else if not ((slice_index os 1 == l.link) && (slice_index os 2 == way_number l.way)) then is_wrong_lane (slice_index os 1) (slice_index os 2) result
    else opens (offset + size + 8) (tag_in os) result

unfoldable pub forges_size : Lane → (octets : List ℕ) → (size : ℕ) → FrameResult → Bool
forges_size l os size result =
    if (size == 0) || not (length os == 24 + size) then is_bad_frame 4 result
    else if not ((slice_index os 6 == 0) && (slice_index os 7 == 0)) then is_bad_frame 6 result
    else forges_place l os (offset_in os) size result

unfoldable pub forges_fixed : Lane → (octets : List ℕ) → FrameResult → Bool
forges_fixed l os result =
    if not (slice_index os 0 == 1) then is_bad_frame 0 result
    else if not (slice_index os 3 == 0) then is_bad_frame 3 result
    else forges_size l os (length_in os) result

-- The first test that the octets don't pass says what becomes of them.
abbrev pub forges : Lane → (octets : List ℕ) → FrameResult → Bool
forges l os result = if nat_lt (length os) 24 then is_bad_frame (length os) result else forges_fixed l os result

-- ---- a changed bit of the lane

-- what the bit at a place of an octet counts
abbrev pub weight : (place : ℕ) → ℕ
weight place =
    if place == 0 then 128 else if place == 1 then 64 else if place == 2 then 32 else if place == 3 then 16
    else if place == 4 then 8 else if place == 5 then 4 else if place == 6 then 2 else 1

abbrev pub changed_at : (place octet : ℕ) → ℕ
changed_at place octet = if (octet / weight place) % 2 == 0 then octet + weight place else octet - weight place

-- The lane's numbers, of which bit 8 to 23 of the frame has changed.
abbrev pub is_changed_lane : Lane → (bit link way : ℕ) → Bool
is_changed_lane l bit link way =
    if nat_lt bit 16 then (link == changed_at (bit - 8) l.link) && (way == way_number l.way)
    else (link == l.link) && (way == changed_at (bit - 16) (way_number l.way))
