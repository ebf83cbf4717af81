-- What a manager awaits is on its way to it, and no two new frames are at the same place.
use Rattle.std.specs.Prelude.{◌≡◌, ℕ, ◌+◌, ◌≤◌, ◌==◌, ◌&&◌, ◌||◌, Bool, true, List, slice_get, count_by}
use Rattle.std.specs.List.{list_any, AllByRecursion}
use Rattle.qkd_base.specs.Lane.{lane_eq}
use Rattle.qkd_base.specs.declared.lane.Lane.{Lane}
use Rattle.net_model.specs.declared.placing.Placing.{Placing}
use Rattle.net_model.specs.Site.{sender, outgoing_lanes}
use Rattle.net_model.specs.World.{Network, World, Allocation, Transmission, Entry, Outgoing}
use Rattle.net_model.specs.Window.{transmission_eq, transmission_of}
use Rattle.net_model.specs.Frames.{offset_or_zero}

-- The new frame, or the placing of one, is that of this order.

abbrev pub brings : Transmission → Outgoing → Bool
brings t o = o.fresh && transmission_eq t o.transmission

abbrev pub tells_of : Transmission → Placing → Bool
tells_of t p = p.fresh && transmission_eq t (transmission_of p)

-- The order has no bytes yet, or its frame waits for the wire, or its placing waits to be noted.
abbrev pub is_coming : World → ℕ → Transmission → Bool
is_coming w v t = list_any (transmission_eq t) (w.unclaimed t.lane) || (list_any (brings t) (w.outgoing t.lane) || list_any (tells_of t) (w.placings v))

-- The order is for a lane that leaves the node, and on its way.
abbrev pub IsOnItsWay : Network → World → ℕ → Transmission → Type 0
IsOnItsWay net w v t = (list_any (λ k. lane_eq k t.lane) (outgoing_lanes net.site v) ≡ true) × (is_coming w v t ≡ true)

-- The entry is at this place of a lane; so is the placing of a new frame, and a new frame that waits for its wire.

abbrev pub lies_at : Lane → ℕ → Entry → Bool
lies_at l x e = lane_eq e.transmission.lane l && (e.offset == x)

abbrev pub told_at : Lane → ℕ → Placing → Bool
told_at l x p = p.fresh && (lane_eq p.lane l && (p.offset == x))

abbrev pub waits_at : List Allocation → ℕ → Outgoing → Bool
waits_at frames x o = o.fresh && (offset_or_zero (slice_get frames o.frame) == x)

-- How often a place of a lane is that of a window entry of its sender, or of a new frame that is on its way there.
abbrev pub times_at : Network → World → Lane → ℕ → ℕ
times_at net w l x =
    count_by (lies_at l x) (w.volatile (sender net.site l)).window + count_by (told_at l x) (w.placings (sender net.site l)) + count_by (waits_at (w.frames l) x) (w.outgoing l)

-- It is so of all that is awaited, and each place is that of one frame at most. So each placing finds its order.
pub record IsAwaited (net : Network) (w : World) : Type 0 where
  pub coming : (v : ℕ) → AllByRecursion (IsOnItsWay net w v) (w.volatile v).awaiting
  pub once : (l : Lane) (x : ℕ) → times_at net w l x ≤ 1
