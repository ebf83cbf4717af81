-- A lane at its sender, with a single owner.
use Rattle.std.specs.Prelude.{◌≡◌, ℕ, ◌+◌, ◌-◌, ◌<◌, ◌≤◌, nat_le, List, length, if◌then◌else◌}
use Rattle.qkd_base.specs.declared.lane.Lane.{Lane}
use Rattle.net_model.specs.declared.payload.Payload.{Payload}
use Rattle.net_model.specs.declared.counts.Counts4.{Counts4}
use Rattle.net_model.specs.Facts.{payload_len}
use Rattle.frame_codec.specs.Payload.{payload_octets}
use Rattle.hop_frames.specs.Frame.{spell}
use Rattle.pad_ledger.specs.Ledger.{Ledger}

-- a lane at its sender: the bytes received so far, the ledger that says what became of them, and the wire
pub record LaneForm (X : Type 0) : Type 0 where
  pub lane : Lane
  pub bytes : List ℕ
  pub ledger : Ledger
  pub wire : X

-- The ledger fits the bytes. The used bytes lie below the end up to which bytes may be claimed, and that end below the bytes received.
-- The hash key, 8 bytes, is used as soon as there are bytes.
pub record IsLaneOf (bytes : List ℕ) (ledger : Ledger) : Type 0 where
  pub received : ledger.received ≡ length bytes
  pub used : ledger.used ≤ ledger.end
  pub end : ledger.end ≤ ledger.received
  pub size : length bytes ≤ 524288
  pub key : 0 < length bytes → 8 ≤ ledger.used

-- A sender starts again at a leased end: the bytes below it that were not used are burnt.
abbrev pub burnt_to : ℕ → Ledger → Ledger
burnt_to lease l = record { used = lease; end = lease; received = l.received; burnt = l.burnt + (lease - l.used) }

-- The end of the allowed bytes is raised to the end of the next n bytes, if it is lower.
abbrev pub reaching : ℕ → Ledger → Ledger
reaching n l = if nat_le (l.used + n) l.end then l else record l { end = l.used + n }

-- the ledger after the next n bytes were claimed for a frame
abbrev pub claimed : ℕ → Ledger → Ledger
claimed n l = record l { used = l.used + n }

-- How many lane bytes the frame of a payload takes: one for each octet of the payload, and 8 for the tag.
abbrev pub frame_need : Payload → ℕ
frame_need p = payload_len p + 8

-- the frame that the payload gets next, from the lane's first unused byte on
abbrev pub next_frame : {X : Type 0} → LaneForm X → Payload → List ℕ
next_frame s p = spell s.lane s.ledger.used s.bytes (payload_octets p)

-- how many bytes were received, and how many of these are unused, spent and burnt
abbrev pub counts_of : Ledger → Counts4
counts_of l = record { received = l.received; unused = l.received - l.used; spent = l.used - l.burnt; burnt = l.burnt }
