-- Rule 14: a frame that comes to its receiver is the one that the line names, and has an answer that its changed bit, or its octets, allow.
use Rattle.std.specs.Prelude.{ℕ, Bool, true, false, not, ◌&&◌, ◌==◌, nat_le, nat_lt, if◌then◌else◌, List}
use Rattle.qkd_base.specs.declared.lane.Lane.{Lane}
use Rattle.qkd_base.specs.Lane.{lane_eq}
use Rattle.qkd_base.specs.Name.{Name, kind_number}
use Rattle.run_types.specs.declared.payload_kind.PayloadKind.{PayloadKind}
use Rattle.run_types.specs.declared.payload_kind.PayloadKind.TheVariants as payloads
use Rattle.run_types.specs.declared.command.Command.{Command}
use Rattle.run_types.specs.declared.command.Command.TheVariants as commands
use Rattle.run_types.specs.declared.refusal.Refusal.{Refusal}
use Rattle.run_types.specs.declared.refusal.Refusal.TheVariants as refusals
use Rattle.run_types.specs.declared.frame_result.FrameResult.{FrameResult}
use Rattle.run_types.specs.declared.frame_result.FrameResult.TheVariants as results
use Rattle.run_types.specs.declared.item.Item.{Item}
use Rattle.run_types.specs.declared.item.Item.TheVariants as items
use Rattle.item_audit.specs.Heads.{forges, is_changed_lane}

-- ---- an unchanged frame

abbrev pub may_refuse_pass : (number : ℕ) → Refusal → Bool
may_refuse_pass number (refusals.NoFrame count) = nat_le count number
may_refuse_pass number refusals.Down = true
may_refuse_pass number (refusals.NoBits have) = true
may_refuse_pass number refusals.Memory = true
may_refuse_pass number (refusals.JournalFull length need) = true
may_refuse_pass number refusals.Stopped = true
may_refuse_pass number _ = false

-- Keys, chunks and parts have names of keys, streams their own, and notes theirs. Each of them may be acknowledged.
abbrev pub is_of_kind : PayloadKind → Name → Bool
is_of_kind payloads.Key n = kind_number n.kind == 0
is_of_kind payloads.Chunk n = kind_number n.kind == 0
is_of_kind payloads.Part n = kind_number n.kind == 0
is_of_kind payloads.Open n = kind_number n.kind == 1
is_of_kind payloads.Stored n = kind_number n.kind == 2
is_of_kind payloads.Joined n = kind_number n.kind == 2
is_of_kind payloads.Ack n = true

abbrev pub passes : (number : ℕ) → FrameResult → Bool
passes number (results.Refused refusal) = may_refuse_pass number refusal
passes number (results.Taken kind name) = is_of_kind kind name
passes number (results.Again kind name) = is_of_kind kind name

-- ---- A frame with a changed bit. Its octets: 0 is the version, 1 and 2 are the lane, 3 is zero, 4 and 5 are the length,
-- 6 and 7 are zero, 8 to 15 are the offset. The payload and the tag follow.

abbrev pub is_of_offset : (bit : ℕ) → Bool
is_of_offset bit = nat_le 64 bit && nat_lt bit 128

-- the octet that a frame with this changed bit is refused for
abbrev pub is_bad_place : (bit place : ℕ) → Bool
is_bad_place bit place =
    if nat_lt bit 8 then place == 0
    else if nat_lt bit 24 then false
    else if nat_lt bit 32 then place == 3
    else if nat_lt bit 48 then place == 4
    else if nat_lt bit 64 then place == 6
    else nat_lt bit 128 && (place == 8)

abbrev pub may_refuse_flip : Lane → (number bit : ℕ) → Refusal → Bool
may_refuse_flip l number bit (refusals.NoFrame count) = nat_le count number
may_refuse_flip l number bit (refusals.NoBit bits) = nat_le bits bit
may_refuse_flip l number bit refusals.Down = true
may_refuse_flip l number bit (refusals.BadFrame place) = is_bad_place bit place
may_refuse_flip l number bit (refusals.WrongLane link way) = nat_le 8 bit && nat_lt bit 24 && is_changed_lane l bit link way
may_refuse_flip l number bit (refusals.NoBits have) = nat_le 64 bit
may_refuse_flip l number bit (refusals.BadTag given computed) = nat_le 64 bit && not (given == computed)
may_refuse_flip l number bit refusals.Memory = nat_le 64 bit
may_refuse_flip l number bit (refusals.JournalFull length need) = nat_le 64 bit
may_refuse_flip l number bit refusals.Stopped = is_of_offset bit
may_refuse_flip l number bit _ = false

-- With another offset the octets may be a frame that stands there.
abbrev pub flips : Lane → (number bit : ℕ) → FrameResult → Bool
flips l number bit (results.Refused refusal) = may_refuse_flip l number bit refusal
flips l number bit _ = is_of_offset bit

-- ---- all

abbrev pub hears_pass : Lane → (number : ℕ) → Item → Bool
hears_pass l number (items.Passed lane at result) = lane_eq lane l && (at == number) && passes at result
hears_pass l number _ = true

abbrev pub hears_flip : Lane → (number bit : ℕ) → Item → Bool
hears_flip l number bit (items.Flipped lane at changed result) = lane_eq lane l && (at == number) && (changed == bit) && flips lane at changed result
hears_flip l number bit _ = true

abbrev pub hears_forge : Lane → (octets : List ℕ) → Item → Bool
hears_forge l octets (items.Forged lane result) = lane_eq lane l && forges l octets result
hears_forge l octets _ = true

abbrev pub hears_settle : Item → Bool
hears_settle (items.Passed lane at result) = passes at result
hears_settle _ = true

abbrev pub hears : Command → Item → Bool
hears (commands.Pass lane number) item = hears_pass lane number item
hears (commands.Flip lane number bit) item = hears_flip lane number bit item
hears (commands.Forge lane octets) item = hears_forge lane octets item
hears (commands.Settle rounds) item = hears_settle item
hears _ item = true
