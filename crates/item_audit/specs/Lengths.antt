-- Rules 14 and 19, as to lengths: a frame has as many octets as some payload, and as one of the kind that is told of it.
use Rattle.std.specs.Prelude.{ℕ, ◌-◌, ◌==◌, Bool, true, ◌&&◌, ◌||◌, nat_le}
use Rattle.run_types.specs.declared.payload_kind.PayloadKind.{PayloadKind}
use Rattle.run_types.specs.declared.payload_kind.PayloadKind.TheVariants as payloads
use Rattle.run_types.specs.declared.frame_result.FrameResult.{FrameResult}
use Rattle.run_types.specs.declared.frame_result.FrameResult.TheVariants as results
use Rattle.run_types.specs.declared.item.Item.{Item}
use Rattle.run_types.specs.declared.item.Item.TheVariants as items

-- An acknowledgement has 17 octets. A fact has 24 and those of its route, which are 2 to 9, or more: at most 40, those of its
-- route, and 512 of a key.
abbrev pub is_payload : (length : ℕ) → Bool
is_payload length = (length == 17) || (nat_le 26 length && nat_le length 561)

-- What a lane lacks is needed for a payload and a tag of 8 octets.
abbrev pub has_length : Item → Bool
has_length (items.Sent l number offset length) = is_payload length
has_length (items.Short l used need received) = is_payload (need - 8)
has_length _ = true

-- ---- kinds

abbrev pub is_within : (least most number : ℕ) → Bool
is_within least most n = nat_le least n && nat_le n most

-- A payload of the kind may have so many octets. A route has 2 to 9, a key or chunk 8 to 512.
abbrev pub fits_kind : PayloadKind → (length : ℕ) → Bool
fits_kind payloads.Key length = is_within 34 545 length
fits_kind payloads.Chunk length = is_within 50 561 length
fits_kind payloads.Part length = is_within 50 561 length
fits_kind payloads.Open length = is_within 26 33 length
fits_kind payloads.Stored length = is_within 36 43 length
fits_kind payloads.Joined length = is_within 36 43 length
fits_kind payloads.Ack length = length == 17

abbrev pub fits_length : (length : ℕ) → FrameResult → Bool
fits_length length (results.Taken kind name) = fits_kind kind length
fits_length length (results.Again kind name) = fits_kind kind length
fits_length length (results.Refused refusal) = true
