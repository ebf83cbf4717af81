-- A manager's window as its callers see it: what a crash loses, and how much more there is room for.
use Rattle.std.specs.Prelude.{ℕ, ◌≤◌, List, [], ◌∷◌, drop, filter, Option, Some, None}
use Rattle.qkd_base.specs.Lane.{lane_eq}
use Rattle.qkd_base.specs.declared.lane.Lane.{Lane}
use Rattle.net_model.specs.World.{PendingAck, Volatile}

-- the items of a list, without its empty slots
abbrev pub somes : {A : Type 0} → List (Option A) → List A
somes [] = []
somes (None ∷ xs) = somes xs
somes (Some x ∷ xs) = x ∷ somes xs

-- The arrivals are the slots of the pending acknowledgements, empty ones among them. The other fields say for how many more
-- acknowledgements, orders and ticks there is room.
pub record Kept : Type 0 where
  pub volatile : Volatile
  pub arrivals : List (Option PendingAck)
  pub received_spare : ℕ
  pub orders_spare : ℕ
  pub ticks_spare : ℕ

-- the pending acknowledgements of frames that arrived on this lane, in order of arrival, from a place on
abbrev pub pending_from : Kept → Lane → ℕ → List PendingAck
pending_from k l from = filter (λ a. lane_eq a.lane l) (somes (drop from k.arrivals))

-- there is at least as much room as before
pub record KeepsRooms (old new : Kept) : Type 0 where
  pub received : old.received_spare ≤ new.received_spare
  pub orders : old.orders_spare ≤ new.orders_spare
  pub ticks : old.ticks_spare ≤ new.ticks_spare
