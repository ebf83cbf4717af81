-- A frame of a lane, by its offset and payload.
use Rattle.std.specs.Prelude.{◌≡◌, ℕ, ◌+◌, ◌≤◌, ◌<◌, ◌^◌, List, length}
use Rattle.qkd_base.specs.declared.lane.Lane.{Lane}
use Rattle.net_model.specs.declared.payload.Payload.{Payload}
use Rattle.net_model.specs.Facts.{payload_len}
use Rattle.frame_codec.specs.Payload.{IsPayload, payload_octets}
use Rattle.hop_frames.specs.Frame.{spell}
use Rattle.pad_veil.specs.declared.sealed_frame.SealedFrame.{SealedFrame}
use Rattle.net_world.specs.Veiled.{veiled_payload}

-- the frame of a payload at an offset of these bytes, which reach to the frame's end
pub record IsFrame (l : Lane) (bytes : List ℕ) (offset : ℕ) (p : Payload) (octets : List ℕ) : Type 0 where
  pub formed : IsPayload p
  pub reach : offset + payload_len p + 8 ≤ length bytes
  pub size : length bytes < 2 ^ 63
  pub is : octets ≡ spell l offset bytes (payload_octets p)

-- a frame with its payload, and with the payload whose key is complemented
abbrev pub veiled_frame : ℕ → Payload → SealedFrame
veiled_frame offset p = record { offset = offset; old = payload_octets p; new = payload_octets (veiled_payload p) }
