-- Rule 10: a frame leaves over a link that is up, and uses bytes that its sender has received.
use Rattle.std.specs.Prelude.{ℕ, ◌+◌, Bool, true, ◌&&◌, ◌==◌, nat_le, if◌then◌else◌, List, [], ◌∷◌, Option, Some, None}
use Rattle.qkd_base.specs.declared.lane.Lane.{Lane}
use Rattle.qkd_base.specs.Lane.{reverse_lane}
use Rattle.run_types.specs.declared.item.Item.{Item}
use Rattle.run_types.specs.declared.item.Item.TheVariants as items
use Rattle.run_types.specs.declared.item.NumberedItem.{NumberedItem}
use Rattle.run_audit.specs.Ledgers.{received_in}
use Rattle.whole_audit.specs.Blocks.{count_of}

-- the link that an item sets up or down, and whether it is up behind it
abbrev pub link_set : Item → Option (ℕ × Bool)
link_set (items.LinkSet link up) = Some (link, up)
link_set _ = None

abbrev pub is_up_behind : Option (ℕ × Bool) → (link : ℕ) → (was_up : Bool) → Bool
is_up_behind None link was_up = was_up
is_up_behind (Some set) link was_up = if set.0 == link then set.1 else was_up

-- A link is up until a line sets it down.
abbrev pub is_up : (link : ℕ) → List NumberedItem → Bool
is_up link [] = true
is_up link (t ∷ before) = is_up_behind (link_set t.item) link (is_up link before)

-- the most bytes of the lane that its sender may have received
abbrev pub most_received : Lane → List NumberedItem → ℕ
most_received l before = received_in l.way (count_of l before).most

-- the least bytes of the lane that its sender has received
abbrev pub least_received : Lane → List NumberedItem → ℕ
least_received l before = received_in l.way (count_of l before).least

-- The lane's receiver may have this number of its bytes.
abbrev pub may_have_at_end : Lane → (bytes : ℕ) → List NumberedItem → Bool
may_have_at_end l bytes before =
    nat_le (received_in l.way (count_of (reverse_lane l) before).least) bytes && nat_le bytes (received_in l.way (count_of (reverse_lane l) before).most)

-- The first `to` bytes of the lane may be used: so many may have been received, and the link is up.
abbrev pub may_use : Lane → (to : ℕ) → List NumberedItem → Bool
may_use l to before = is_up l.link before && nat_le to (most_received l before)

-- A frame uses the bytes of its payload and 8 more. The least payload, an acknowledgement, has 17 octets.
abbrev pub rule_10 : List NumberedItem → Item → Bool
rule_10 before (items.Sent l number offset length) = may_use l (offset + length + 8) before
rule_10 before (items.Unsent l offset cause) = may_use l (offset + 25) before
rule_10 before _ = true
