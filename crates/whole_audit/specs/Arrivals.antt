-- Rule 14, as to hops: over which lanes nodes took facts.
use Rattle.std.specs.Prelude.{Bool, false, ◌&&◌, ◌||◌, if◌then◌else◌, List, [], ◌∷◌, Option, Some, None}
use Rattle.qkd_base.specs.declared.lane.Lane.{Lane}
use Rattle.qkd_base.specs.Lane.{lane_eq}
use Rattle.qkd_base.specs.Name.{Name, name_eq}
use Rattle.run_types.specs.declared.frame_result.FrameResult.{FrameResult}
use Rattle.run_types.specs.declared.frame_result.FrameResult.TheVariants as results
use Rattle.run_types.specs.declared.item.Item.{Item}
use Rattle.run_types.specs.declared.item.Item.TheVariants as items
use Rattle.run_types.specs.declared.item.NumberedItem.{NumberedItem}
use Rattle.run_audit.specs.Takings.{is_ack}
use Rattle.whole_audit.specs.declared.arrivals.Arrival.{Arrival}

abbrev pub arrival_on : Lane → FrameResult → Option Arrival
arrival_on l (results.Taken kind name) = if is_ack kind then None else Some (record { lane = l; name = name })
arrival_on l _ = None

abbrev pub arrival_of : Item → Option Arrival
arrival_of (items.Passed l number result) = arrival_on l result
arrival_of (items.Flipped l number bit result) = arrival_on l result
arrival_of (items.Forged l result) = arrival_on l result
arrival_of _ = None

abbrev pub is_arrival : Option Arrival → Lane → Name → Bool
is_arrival None l n = false
is_arrival (Some a) l n = lane_eq a.lane l && name_eq a.name n

-- The lane's receiver took the fact from there.
abbrev pub has_arrived : List NumberedItem → Lane → Name → Bool
has_arrived [] l n = false
has_arrived (t ∷ before) l n = is_arrival (arrival_of t.item) l n || has_arrived before l n
