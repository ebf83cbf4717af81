-- The bytes of a lane at its sender. From the front they are: the used ones, those that may be claimed up to the end,
-- and the other received ones.
use Rattle.std.specs.Prelude.{ℕ, ◌+◌, ◌≤◌, ◌<◌, ◌^◌, ◌==◌, if◌then◌else◌}

-- how many bytes are used, the end up to which bytes may be claimed, how many were received, and how many of the used
-- bytes are burnt
pub record Ledger : Type 0 where
  pub used : ℕ
  pub end : ℕ
  pub received : ℕ
  pub burnt : ℕ

pub record IsLedger (l : Ledger) : Type 0 where
  pub burnt : l.burnt ≤ l.used
  pub used : l.used ≤ l.end
  pub end : l.end ≤ l.received
  pub received : l.received < 2 ^ 32

-- claimed bytes: the place of the first, and how many they are
pub record Range : Type 0 where
  pub start : ℕ
  pub len : ℕ

-- The ledger after more bytes are received. The first 8 bytes of a lane are its hash key, so they are used at once.
abbrev pub received_more : Ledger → ℕ → Ledger
received_more l n = if l.received == 0 then record { used = 8; end = 8; received = n; burnt = l.burnt } else record l { received = l.received + n }
