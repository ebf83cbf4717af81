-- The veil of a lane: other bytes under which frames with other payloads are the frames that were sealed (one-time pad).
use Rattle.std.specs.Prelude.{◌≡◌, ℕ, ◌+◌, ◌≤◌, ◌<◌, ◌⊎◌, List, [], ◌∷◌, ◌++◌, length, take, drop, slice_index}
use Rattle.std.specs.List.{All}
use Rattle.qkd_base.specs.declared.lane.Lane.{Lane}
use Rattle.hop_frames.specs.Frame.{masked, spell}
use Rattle.pad_veil.specs.declared.sealed_frame.SealedFrame.{SealedFrame}

-- the bytes from a payload's first one on, each xored with its octet of the old payload and of the new one
abbrev pub relaid : SealedFrame → List ℕ → List ℕ
relaid f pads = masked (masked pads f.old) f.new

-- the lane, with the bytes of one frame's payload exchanged
abbrev pub exchanged : SealedFrame → List ℕ → List ℕ
exchanged f bytes = take f.offset bytes ++ relaid f (drop f.offset bytes)

-- the lane, with the bytes of each frame's payload exchanged
abbrev pub veil : List ℕ → List SealedFrame → List ℕ
veil bytes [] = bytes
veil bytes (f ∷ frames) = veil (exchanged f bytes) frames

-- the bytes that mask a frame's payload
abbrev pub pads_of : SealedFrame → List ℕ → List ℕ
pads_of f bytes = take (length f.old) (drop f.offset bytes)

-- The bytes that mask a payload are xored with the old payload and the new one. All other bytes stay, and there are as many as before.
pub record IsVeil (bytes : List ℕ) (frames : List SealedFrame) (veil : List ℕ) : Type 0 where
  pub payloads : All (λ f. pads_of f veil ≡ masked (masked (pads_of f bytes) f.old) f.new) frames
  pub others : (x : ℕ) → All (λ f. (x < f.offset) ⊎ (f.offset + length f.old ≤ x)) frames → slice_index veil x ≡ slice_index bytes x
  pub len : length veil ≡ length bytes

-- On any lane, the frame of the new payload over the veil is the frame of the old payload over the lane's bytes.
abbrev pub Fits : List ℕ → List ℕ → SealedFrame → Type 0
Fits bytes veil f = (lane : Lane) → spell lane f.offset bytes f.old ≡ spell lane f.offset veil f.new
