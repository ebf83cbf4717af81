-- Rule 9: the blocks of an end are 0, 1, 2 and so on, up to 1,023.
use Rattle.std.specs.Prelude.{◌+◌, Bool, true, false, ◌&&◌, nat_le, nat_lt, min, if◌then◌else◌, List, [], ◌∷◌, Option, Some, None}
use Rattle.qkd_base.specs.declared.lane.Lane.{Lane}
use Rattle.qkd_base.specs.Lane.{lane_eq}
use Rattle.run_types.specs.declared.refusal.Refusal.{Refusal}
use Rattle.run_types.specs.declared.refusal.Refusal.TheVariants as refusals
use Rattle.run_types.specs.declared.item.Item.{Item}
use Rattle.run_types.specs.declared.item.Item.TheVariants as items
use Rattle.run_types.specs.declared.item.NumberedItem.{NumberedItem}
use Rattle.run_audit.specs.Ledgers.{lane_from}
use Rattle.whole_audit.specs.declared.blocks.Count.{Count}

-- An end that stopped at a block may have taken it. An end takes 1,024 blocks at most.
abbrev pub behind_refusal : Refusal → Count → Count
behind_refusal refusals.Stopped c = record c { most = min (c.most + 1) 1024 }
behind_refusal _ c = c

-- how many blocks an end may have taken behind this item of its own
abbrev pub behind_item : Item → Count → Count
behind_item (items.Took link end number) c = record { least = number + 1; most = number + 1 }
behind_item (items.TookNone link end refusal) c = behind_refusal refusal c
behind_item _ c = c

-- the lane that begins at the end whose block an item tells of
abbrev pub block_lane : Item → Option Lane
block_lane (items.Took link end number) = Some (lane_from link end)
block_lane (items.TookNone link end refusal) = Some (lane_from link end)
block_lane _ = None

abbrev pub is_lane : Lane → Option Lane → Bool
is_lane l None = false
is_lane l (Some k) = lane_eq k l

-- how many blocks the end at which the lane begins may have taken
abbrev pub count_of : Lane → List NumberedItem → Count
count_of l [] = record { least = 0; most = 0 }
count_of l (t ∷ before) = if is_lane l (block_lane t.item) then behind_item t.item (count_of l before) else count_of l before

-- The end may have taken none, with this count. A manager that is down says so, whatever the count.
abbrev pub may_take_none : Refusal → Count → Bool
may_take_none refusals.Down c = true
may_take_none refusals.LinkFull c = nat_le 1024 c.most
may_take_none refusals.Stopped c = nat_lt c.least 1024
may_take_none refusals.Memory c = nat_lt c.least 1024
may_take_none refusals.NoBlock c = nat_lt c.least 1024
may_take_none refusals.DeviceFault c = nat_lt c.least 1024
may_take_none (refusals.JournalFull length need) c = nat_lt c.least 1024
may_take_none _ c = false

-- The block's number is a possible count of the blocks before it.
abbrev pub is_next : Item → Count → Bool
is_next (items.Took link end number) c = nat_le c.least number && nat_le number c.most && nat_lt number 1024
is_next (items.TookNone link end refusal) c = may_take_none refusal c
is_next _ c = true

abbrev pub follows : Option Lane → Item → List NumberedItem → Bool
follows None item before = true
follows (Some l) item before = is_next item (count_of l before)

abbrev pub rule_9 : List NumberedItem → NumberedItem → Bool
rule_9 before t = follows (block_lane t.item) t.item before
