-- When a lane's ledger is true of the items before it.
use Rattle.std.specs.Prelude.{ℕ, ◌+◌, ◌*◌, ◌/◌, Bool, true, false, ◌&&◌, ◌||◌, ◌==◌, nat_le, if◌then◌else◌, List}
use Rattle.std.specs.List.{list_any}
use Rattle.qkd_base.specs.declared.lane.Way.{Way}
use Rattle.qkd_base.specs.declared.lane.Way.TheVariants.{Up, Down}
use Rattle.qkd_base.specs.declared.lane.Lane.{Lane}
use Rattle.qkd_base.specs.Lane.{lane_eq}
use Rattle.net_model.specs.declared.counts.Counts4.{Counts4}
use Rattle.run_types.specs.declared.end.End.{End}
use Rattle.run_types.specs.declared.end.End.TheVariants.{Low, High}
use Rattle.run_types.specs.declared.refusal.Refusal.{Refusal}
use Rattle.run_types.specs.declared.refusal.Refusal.TheVariants as refusals
use Rattle.run_types.specs.declared.item.Item.{Item}
use Rattle.run_types.specs.declared.item.Item.TheVariants as items
use Rattle.run_types.specs.declared.item.NumberedItem.{NumberedItem}
use Rattle.run_audit.specs.declared.sums.LaneSum.{LaneSum}
use Rattle.run_audit.specs.Frames.{frames, how_many, sent_on, used_on}

-- the lane of a link whose sender is at this end
abbrev pub lane_from : (link : ℕ) → End → Lane
lane_from link Low = record { link = link; way = Up }
lane_from link High = record { link = link; way = Down }

-- the lane's sender took a block
abbrev pub is_block_for : Lane → Item → Bool
is_block_for l (items.Took link end number) = lane_eq (lane_from link end) l
is_block_for l _ = false

abbrev pub is_stop : Refusal → Bool
is_stop refusals.Stopped = true
is_stop _ = false

-- The lane's sender stopped at a block. It may or may not have taken the block.
abbrev pub is_doubt_for : Lane → Item → Bool
is_doubt_for l (items.TookNone link end refusal) = lane_eq (lane_from link end) l && is_stop refusal
is_doubt_for l _ = false

-- The lane's wire refused a frame.
abbrev pub is_unsent_on : Lane → Item → Bool
is_unsent_on l (items.Unsent k offset cause) = lane_eq k l
is_unsent_on l _ = false

abbrev pub blocks_for : Lane → List NumberedItem → ℕ
blocks_for l before = how_many (λ (t : NumberedItem). is_block_for l t.item) before

abbrev pub is_doubted : Lane → List NumberedItem → Bool
is_doubted l before = list_any (λ (t : NumberedItem). is_doubt_for l t.item) before

abbrev pub has_unsent : Lane → List NumberedItem → Bool
has_unsent l before = list_any (λ (t : NumberedItem). is_unsent_on l t.item) before

-- The lane's share of the first blocks of its link, in bytes. Blocks of 1,024 bytes belong to the lane up and the lane down by turns.
abbrev pub received_in : Way → (blocks : ℕ) → ℕ
received_in Up blocks = 1024 * ((blocks + 1) / 2)
received_in Down blocks = 1024 * (blocks / 2)

-- The spent bytes are the hash key and those of the frames. If a wire refused a frame, more bytes may be spent.
abbrev pub spends : (is_open : Bool) → (used : ℕ) → Counts4 → Bool
spends is_open used c =
    if c.received == 0 then c.spent == 0
    else if is_open then nat_le (8 + used) c.spent
    else c.spent == 8 + used

-- what the items so far say of a lane
abbrev pub sum_of : Lane → List NumberedItem → LaneSum
sum_of l before = record {
  sent = sent_on l (frames before);
  used = used_on l (frames before);
  blocks = blocks_for l before;
  is_doubted = is_doubted l before;
  has_unsent = has_unsent l before;
}

-- The counts add up, the received bytes are those of the blocks taken, and the spent bytes are those used.
abbrev pub allows : LaneSum → Way → Counts4 → Bool
allows s way c =
    (c.received == c.unused + c.spent + c.burnt)
    && (s.is_doubted || (c.received == received_in way s.blocks))
    && spends s.has_unsent s.used c

-- The ledger is true of the items before it.
abbrev pub is_true_ledger : List NumberedItem → Lane → Counts4 → Bool
is_true_ledger before l c = allows (sum_of l before) l.way c
