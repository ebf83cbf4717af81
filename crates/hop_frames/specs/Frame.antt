-- A frame and its spelling: header, masked payload, masked tag. All numbers are big-endian.
use Rattle.std.specs.Prelude.{ℕ, List, [], ◌∷◌, ◌++◌, length, take, drop, bit_xor}
use Rattle.std.specs.Int.{w16, w64, to_be_bytes, from_be_bytes}
use Rattle.qkd_base.specs.Lane.{way_number}
use Rattle.qkd_base.specs.declared.lane.Lane.{Lane}
use Rattle.wc_tags.specs.Tag.{tag}

-- The header has 16 octets: version 1, link, way, 0, the payload's length in 2 octets, 0, 0, and the lane offset in 8 octets.
abbrev pub header : Lane → ℕ → ℕ → List ℕ
header lane offset size = 1 ∷ lane.link ∷ way_number lane.way ∷ 0 ∷ to_be_bytes w16 size ++ 0 ∷ 0 ∷ to_be_bytes w64 offset

-- Each octet is masked by one lane byte (one-time pad).
abbrev pub masked : List ℕ → List ℕ → List ℕ
masked [] pads = []
masked (p ∷ ps) [] = p ∷ masked ps []
masked (p ∷ ps) (l ∷ ls) = bit_xor p l ∷ masked ps ls

-- the first 8 bytes as a number
abbrev pub number_of : List ℕ → ℕ
number_of bytes = from_be_bytes w64 (take 8 bytes)

-- a lane's hash key: its first 8 bytes
abbrev pub hash_key : List ℕ → ℕ
hash_key bytes = number_of bytes

-- The authenticated text: the header, and the payload masked by the first pads.
abbrev pub text_of : Lane → ℕ → List ℕ → List ℕ → List ℕ
text_of lane offset pads payload = header lane offset (length payload) ++ masked payload pads

-- the octets of a masked tag
abbrev pub tag_octets : ℕ → List ℕ → ℕ → List ℕ
tag_octets key text mask = to_be_bytes w64 (tag key text mask)

-- The frame: the authenticated text and its tag. The 8 pads behind the payload's mask the tag (Wegman and Carter 1981, section 4).
unfoldable pub framed : Lane → ℕ → ℕ → List ℕ → List ℕ → List ℕ
framed lane offset key pads payload =
    text_of lane offset pads payload ++ tag_octets key (text_of lane offset pads payload) (number_of (drop (length payload) pads))

-- the frame of a payload's octets on a lane at an offset, given the lane's bytes
abbrev pub spell : Lane → ℕ → List ℕ → List ℕ → List ℕ
spell lane offset bytes payload = framed lane offset (hash_key bytes) (drop offset bytes) payload
