-- The frames that plans send on lanes.
use Rattle.std.specs.Prelude.{ℕ, ◌==◌, Bool, List, ◌++◌, map, filter}
use Rattle.std.specs.List.{sum_by}
use Rattle.qkd_base.specs.Lane.{lane_place}
use Rattle.qkd_base.specs.declared.lane.Lane.{Lane}
use Rattle.net_model.specs.declared.order.Order.{Order}
use Rattle.net_model.specs.declared.repeat.Repeat.{Repeat}
use Rattle.net_model.specs.Tick.{Emission, Again, New}
use Rattle.lane_sender.specs.Lane.{frame_need}

-- a plan's repeats, and then its orders
abbrev pub wanted : List Repeat → List Order → List Emission
wanted repeats orders = map Again repeats ++ map New orders

abbrev pub lane_for : Emission → Lane
lane_for (Again r) = r.lane
lane_for (New o) = o.lane

-- The frame is sent on the lane at this place.
abbrev pub is_at : ℕ → Emission → Bool
is_at i e = lane_place (lane_for e) == i

-- the turns of its lane that a frame takes: one to put it again, or one to claim and one to put
abbrev pub turns_for : Emission → ℕ
turns_for (Again r) = 1
turns_for (New o) = 2

-- the lane's bytes that a frame takes
abbrev pub bytes_for : Emission → ℕ
bytes_for (Again r) = 0
bytes_for (New o) = frame_need o.payload

-- the turns that frames take on the lane at a place

abbrev pub turns_at : ℕ → List Emission → ℕ
turns_at i wants = sum_by turns_for (filter (is_at i) wants)

abbrev pub bytes_at : ℕ → List Emission → ℕ
bytes_at i wants = sum_by bytes_for (filter (is_at i) wants)
