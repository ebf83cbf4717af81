-- Rules 11 and 14: the bytes that a ledger, or a receiver that lacks some, tells of are what blocks brought, as far as the report tells how many.
use Rattle.std.specs.Prelude.{ℕ, Bool, true, ◌&&◌, nat_le, List}
use Rattle.qkd_base.specs.declared.lane.Lane.{Lane}
use Rattle.run_types.specs.declared.item.Item.{Item}
use Rattle.run_types.specs.declared.item.Item.TheVariants as items
use Rattle.run_types.specs.declared.item.NumberedItem.{NumberedItem}
use Rattle.run_types.specs.declared.frame_result.FrameResult.{FrameResult}
use Rattle.run_types.specs.declared.frame_result.FrameResult.TheVariants as results
use Rattle.run_types.specs.declared.refusal.Refusal.TheVariants as refusals
use Rattle.whole_audit.specs.Tracks.{leaves, track_of}
use Rattle.whole_audit.specs.Claims.{least_received, most_received, may_have_at_end}

abbrev pub may_have_received : Lane → (received : ℕ) → List NumberedItem → Bool
may_have_received l received before = nat_le (least_received l before) received && nat_le received (most_received l before)

-- A frame's receiver lacks bytes where it has as many as it says.
abbrev pub lacks_rightly : Lane → FrameResult → List NumberedItem → Bool
lacks_rightly l (results.Refused (refusals.NoBits have)) before = may_have_at_end l have before
lacks_rightly l _ before = true

-- Rule 14, as to bytes.
abbrev pub lacks_bytes : List NumberedItem → Item → Bool
lacks_bytes before (items.Passed l number result) = lacks_rightly l result before
lacks_bytes before (items.Flipped l number bit result) = lacks_rightly l result before
lacks_bytes before (items.Forged l result) = lacks_rightly l result before
lacks_bytes before _ = true

abbrev pub rule_11 : List NumberedItem → Item → Bool
rule_11 before (items.Counted l counts) = may_have_received l counts.received before && leaves counts.unused counts.received (track_of l before)
rule_11 before _ = true
