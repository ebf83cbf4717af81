-- Rule 17: a short item tells numbers of its lane, and its need passes what was received.
use Rattle.std.specs.Prelude.{◌+◌, Bool, true, ◌&&◌, nat_le, nat_lt, List}
use Rattle.run_types.specs.declared.item.Item.{Item}
use Rattle.run_types.specs.declared.item.Item.TheVariants as items
use Rattle.run_types.specs.declared.item.NumberedItem.{NumberedItem}
use Rattle.whole_audit.specs.Claims.{is_up}
use Rattle.whole_audit.specs.Tracks.{has_used, track_of}
use Rattle.whole_audit.specs.Sums.{may_have_received}

-- A frame needs 8 bytes more than its payload has octets, which are 17 to 561.
abbrev pub rule_17 : List NumberedItem → Item → Bool
rule_17 before (items.Short l used need received) =
    is_up l.link before && may_have_received l received before && nat_lt received (used + need) && nat_le 25 need && nat_le need 569
    && has_used used received (track_of l before)
rule_17 before _ = true
