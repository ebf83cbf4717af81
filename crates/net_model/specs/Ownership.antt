-- The owner of each lane byte. No byte masks two frames, and no byte is used before it was received.
use Rattle.std.specs.Prelude.{◌≡◌, ℕ, ◌+◌, ◌<◌, ◌≤◌, ◌==◌, ◌&&◌, nat_lt, nat_le, Bool, true, false, List, length, slice_get, Option, Some, None}
use Rattle.net_model.specs.declared.fact.Fact.{Fact}
use Rattle.net_model.specs.Item.{need}
use Rattle.net_model.specs.World.{Allocation, Owner, HashKey, Frame, Burnt, Outgoing, Transmission, needs}

abbrev pub is_frame : ℕ → Option Owner → Bool
is_frame j None = false
is_frame j (Some HashKey) = false
is_frame j (Some (Frame k)) = k == j
is_frame j (Some Burnt) = false

abbrev pub is_key : Option Owner → Bool
is_key (Some HashKey) = true
is_key _ = false

-- the frame spends byte x: x is one of the bytes that it needs, from its offset on
abbrev pub covers : List Fact → Option Allocation → ℕ → Bool
covers facts None x = false
covers facts (Some a) x = nat_le a.offset x && nat_lt x (a.offset + need facts a.item)

-- A frame owns exactly the bytes that it covers, so no two frames share a byte. The hash key owns exactly the first 8
-- bytes of a lane that received any.
pub record IsOwned (facts : List Fact) (own : List Owner) (frames : List Allocation) (received : ℕ) : Type 0 where
  pub frame : (x j : ℕ) → is_frame j (slice_get own x) ≡ covers facts (slice_get frames j) x
  pub key : (x : ℕ) → is_key (slice_get own x) ≡ (nat_lt x 8 && nat_lt 0 received)
  pub reach : 0 < received → 8 ≤ length own

-- owned bytes are planned, planned bytes are leased, and leased bytes were received
pub record HasRoom (facts : List Fact) (own : List Owner) (unclaimed : List Transmission) (lease received : ℕ) : Type 0 where
  pub planned : length own + needs facts unclaimed ≤ lease
  pub leased : lease ≤ received

-- each number on the wire is that of a frame, and each frame that may be put carries its item
pub record IsWired (frames : List Allocation) (wire : List ℕ) (outgoing : List Outgoing) : Type 0 where
  pub wired : (n j : ℕ) → slice_get wire n ≡ Some j → j < length frames
  pub put : (n : ℕ) (o : Outgoing) → slice_get outgoing n ≡ Some o →
      (a : Allocation) × (slice_get frames o.frame ≡ Some a) × (a.item ≡ o.transmission.item)
