-- How a payload becomes a frame on a lane, and a frame a payload. The network uses frames only through these two
-- functions.
use Rattle.std.specs.Prelude.{◌≡◌, ℕ, ◌+◌, ◌^◌, ◌≤◌, ◌<◌, Bool, true, false, List, ◌++◌, length}
use Rattle.qkd_base.specs.declared.lane.Lane.{Lane}
use Rattle.net_model.specs.declared.payload.Payload.{Payload}
use Rattle.net_model.specs.declared.reply.Reply.{Reply}
use Rattle.net_model.specs.declared.reply.Reply.TheVariants.{BadFrame, WrongLane, NoBits, BadTag}
use Rattle.net_model.specs.Facts.{payload_len, IsWellFormed}
use Rattle.net_model.specs.Ranges.{IsOctets, IsRanged}

-- The result of opening octets with the received lane bytes: a payload at an offset; a refusal, which is BadFrame,
-- WrongLane, NoBits or BadTag, tried in this order; or a right tag over octets that are no payload, with the place of
-- the first wrong octet.
pub data Opened : Type 0 where
  Opens : (offset : ℕ) (payload : Payload) → Opened
  Rejected : (reply : Reply) → Opened
  Forged : (place : ℕ) → Opened

-- the reasons for which octets are no frame: BadFrame, WrongLane, NoBits or BadTag
abbrev pub is_frame_refusal : Reply → Bool
is_frame_refusal (BadFrame place) = true
is_frame_refusal (WrongLane link way) = true
is_frame_refusal (NoBits have) = true
is_frame_refusal (BadTag given computed) = true
is_frame_refusal _ = false

-- `seal` takes a lane, its bytes, an offset and a payload; `unseal` takes a lane, its bytes and a frame's octets
pub record Sealing : Type 0 where
  pub seal : Lane → List ℕ → ℕ → Payload → List ℕ
  pub unseal : Lane → List ℕ → List ℕ → Opened

-- a payload that can be sealed: the lane has enough bytes from the offset on, which is past the hash key
pub record IsSealable (l : Lane) (bytes : List ℕ) (offset : ℕ) (p : Payload) : Type 0 where
  pub link : l.link < 32
  pub octets : IsOctets bytes
  pub size : length bytes < 2 ^ 63
  pub formed : IsWellFormed p
  pub ranged : IsRanged p
  pub start : 8 ≤ offset
  pub reach : offset + payload_len p + 8 ≤ length bytes

-- The frames of a network. A frame consists of octets, 24 more than its payload, and more lane bytes don't change it.
-- It opens to what was sealed once the received bytes suffice, and is refused with NoBits before. Each refusal is one
-- of a frame.
pub record IsSealing (f : Sealing) : Type 0 where
  pub size : (l : Lane) (bytes : List ℕ) (offset : ℕ) (p : Payload) → IsSealable l bytes offset p → length (f.seal l bytes offset p) ≡ payload_len p + 24
  pub octets : (l : Lane) (bytes : List ℕ) (offset : ℕ) (p : Payload) → IsSealable l bytes offset p → IsOctets (f.seal l bytes offset p)
  pub longer : (l : Lane) (bytes more : List ℕ) (offset : ℕ) (p : Payload) → IsSealable l bytes offset p →
      f.seal l (bytes ++ more) offset p ≡ f.seal l bytes offset p
  pub opens : (l : Lane) (bytes : List ℕ) (offset : ℕ) (p : Payload) → IsSealable l bytes offset p →
      f.unseal l bytes (f.seal l bytes offset p) ≡ Opens offset p
  pub too_few : (l : Lane) (bytes more : List ℕ) (offset : ℕ) (p : Payload) → IsSealable l (bytes ++ more) offset p →
      length bytes < offset + payload_len p + 8 → f.unseal l bytes (f.seal l (bytes ++ more) offset p) ≡ Rejected (NoBits (length bytes))
  pub rejects : (l : Lane) (bytes octets : List ℕ) (reply : Reply) → f.unseal l bytes octets ≡ Rejected reply → is_frame_refusal reply ≡ true
