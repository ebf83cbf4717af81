-- Rules 16, 17, 18 and 20: an item names the node, key, lane or link of its line.
use Rattle.std.specs.Prelude.{ℕ, ◌==◌, Bool, true, false, not, ◌&&◌, length}
use Rattle.qkd_base.specs.declared.lane.Lane.{Lane}
use Rattle.qkd_base.specs.Lane.{lane_eq}
use Rattle.qkd_base.specs.Name.{Name, name_eq}
use Rattle.net_model.specs.declared.held.Held.{Held}
use Rattle.net_model.specs.declared.held.Held.TheVariants as held
use Rattle.run_types.specs.declared.command.Command.{Command}
use Rattle.run_types.specs.declared.command.Command.TheVariants as commands
use Rattle.run_types.specs.declared.refusal.Refusal.{Refusal}
use Rattle.run_types.specs.declared.refusal.Refusal.TheVariants as refusals
use Rattle.run_types.specs.declared.item.Item.{Item}
use Rattle.run_types.specs.declared.item.Item.TheVariants as items
use Rattle.item_audit.specs.Responses.{is_response}

-- what only tells may be refused so
abbrev pub may_refuse_telling : Refusal → Bool
may_refuse_telling refusals.Down = true
may_refuse_telling refusals.Memory = true
may_refuse_telling _ = false

-- ---- rule 16: responses

abbrev pub responds_at : (node : ℕ) → Item → Bool
responds_at v (items.Http node status body) = (node == v) && is_response status body
responds_at v _ = true

abbrev pub responds : Command → Item → Bool
responds (commands.Http v octets) item = responds_at v item
responds _ item = true

-- ---- rule 17: ticks

abbrev pub may_refuse_tick : Refusal → Bool
may_refuse_tick refusals.Down = true
may_refuse_tick refusals.Memory = true
may_refuse_tick (refusals.JournalFull length need) = true
may_refuse_tick refusals.Stopped = true
may_refuse_tick _ = false

abbrev pub ticks_at : (node : ℕ) → Item → Bool
ticks_at v (items.Ticked node fresh again) = node == v
ticks_at v (items.Idle node) = node == v
ticks_at v (items.NotTicked node refusal) = (node == v) && may_refuse_tick refusal
ticks_at v _ = true

abbrev pub ticks_any : Item → Bool
ticks_any (items.NotTicked node refusal) = may_refuse_tick refusal
ticks_any _ = true

abbrev pub ticks : Command → Item → Bool
ticks (commands.Tick v) item = ticks_at v item
ticks (commands.Settle rounds) item = ticks_any item
ticks _ item = true

-- ---- rule 18: what a node holds

-- A node has the bytes of a key that it made, or that waits there. It has none of one that it doesn't know.
abbrev pub fits_bytes : Held → (are_there : Bool) → Bool
fits_bytes held.Absent are_there = not are_there
fits_bytes held.Ready are_there = are_there
fits_bytes held.Made are_there = are_there
fits_bytes held.Kept are_there = are_there
fits_bytes _ are_there = true

-- A node has made the keys that it named. Others wait for it, or pass through it.
abbrev pub fits_node : Held → (is_own : Bool) → Bool
fits_node held.Ready is_own = is_own
fits_node held.Made is_own = is_own
fits_node held.Kept is_own = not is_own
fits_node held.Relayed is_own = not is_own
fits_node _ is_own = true

abbrev pub shows_at : (node : ℕ) → Name → Item → Bool
shows_at v n (items.Shown node name what bytes) = (node == v) && name_eq name n && fits_bytes what (not (length bytes == 0)) && fits_node what (node == name.node)
shows_at v n (items.NotShown node name refusal) = (node == v) && name_eq name n && may_refuse_telling refusal
shows_at v n _ = true

abbrev pub shows : Command → Item → Bool
shows (commands.Show v name) item = shows_at v name item
shows _ item = true

-- ---- rule 20: lanes and links

abbrev pub counts_at : Lane → Item → Bool
counts_at l (items.Counted lane counts) = lane_eq lane l
counts_at l (items.NotCounted lane refusal) = lane_eq lane l && may_refuse_telling refusal
counts_at l _ = true

abbrev pub sets_link : (link : ℕ) → (up : Bool) → Item → Bool
sets_link k true (items.LinkSet link up) = (link == k) && up
sets_link k false (items.LinkSet link up) = (link == k) && not up
sets_link k up _ = true

abbrev pub names_lane : Command → Item → Bool
names_lane (commands.Ledger lane) item = counts_at lane item
names_lane (commands.LinkUp link) item = sets_link link true item
names_lane (commands.LinkDown link) item = sets_link link false item
names_lane _ item = true
