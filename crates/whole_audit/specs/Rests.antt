-- Rule 7, as to numbers: each line gives as much as it asks for.
use Rattle.std.specs.Prelude.{ℕ, ◌+◌, ◌-◌, ◌^◌, ◌==◌, Bool, true, false, ◌||◌, nat_lt, min, if◌then◌else◌, List, [], ◌∷◌, Option, Some, None}
use Rattle.qkd_base.specs.declared.lane.Lane.{Lane}
use Rattle.qkd_base.specs.Lane.{lane_place}
use Rattle.run_types.specs.declared.end.End.{End}
use Rattle.run_types.specs.declared.end.End.TheVariants as end
use Rattle.run_types.specs.declared.end.Ends.{Ends}
use Rattle.run_types.specs.declared.command.Command.{Command}
use Rattle.run_types.specs.declared.command.Command.TheVariants as commands
use Rattle.run_types.specs.declared.item.Item.{Item}
use Rattle.run_types.specs.declared.item.Item.TheVariants as items
use Rattle.run_types.specs.declared.item.NumberedItem.{NumberedItem}
use Rattle.run_types.specs.declared.scenario.Scenario.{Scenario}
use Rattle.whole_audit.specs.declared.rests.Rest.{Rest}
use Rattle.whole_audit.specs.Lines.{command_at}
use Rattle.item_audit.specs.Parts.{is_among}

abbrev pub no_rest : Rest
no_rest = record { low = 0; high = 0; ticks = 0; rounds = 0; node = 0; lacks = false; shorts = false; frames = 0; link = 0; offset = 0; waiting = 0; passing = false; lane = 0; number = 0 }

-- ---- what a line has to give

abbrev pub blocks_asked : Ends → End → (count : ℕ) → ℕ
blocks_asked es e count = if is_among es e then count else 0

abbrev pub asked : Command → Rest
asked (commands.Bits link es count) = record no_rest { low = blocks_asked es end.Low count; high = blocks_asked es end.High count }
asked (commands.Tick v) = record no_rest { ticks = 1 }
-- A first round begins as one behind which all frames have come.
asked (commands.Settle rounds) = record no_rest { rounds = rounds; passing = true }
asked _ = no_rest

abbrev pub asked_if : Option Command → Rest
asked_if None = no_rest
asked_if (Some command) = asked command

-- ---- what is left behind an item

abbrev pub behind_took : End → Rest → Rest
behind_took end.Low r = record r { low = r.low - 1 }
behind_took end.High r = record r { high = r.high - 1 }

-- An end that took no block is asked for no more.
abbrev pub behind_none : End → Rest → Rest
behind_none end.Low r = record r { low = 0 }
behind_none end.High r = record r { high = 0 }

abbrev pub rounds_behind : Rest → ℕ
rounds_behind r = if r.passing then r.rounds - 1 else r.rounds

-- Behind a tick of a node that tells of so many frames, or of none.
abbrev pub behind_tick : (node : ℕ) → (shorts lacks : Bool) → (frames : ℕ) → Rest → Rest
behind_tick v shorts lacks frames r = record r { ticks = r.ticks - 1; rounds = rounds_behind r; node = v + 1; lacks = lacks; shorts = shorts; frames = frames; link = 0; offset = 0; passing = false; lane = 0; number = 0 }

-- Behind a frame that is put on its wire, or that the wire refuses.
abbrev pub behind_frame : Lane → (offset : ℕ) → Rest → Rest
behind_frame l offset r = record r { frames = r.frames - 1; shorts = false; link = l.link; offset = min (offset + 1) (2 ^ 64 - 1) }

-- Each frame that a tick tells of is put on its wire, or the wire refuses it. In a settle those that were put come to their receivers.
abbrev pub behind : Item → Rest → Rest
behind (items.Took link e number) r = behind_took e r
behind (items.TookNone link e refusal) r = behind_none e r
behind (items.Ticked v fresh again) r = behind_tick v true (fresh + again == 0) (fresh + again) r
behind (items.Idle v) r = behind_tick v false false 0 r
behind (items.NotTicked v refusal) r = behind_tick v false false 0 r
behind (items.Short l used need received) r = record r { lacks = false; link = l.link + 1 }
behind (items.Sent l number offset length) r = record (behind_frame l offset r) { waiting = min (r.waiting + 1) (2 ^ 64 - 1) }
behind (items.Unsent l offset cause) r = behind_frame l offset r
behind (items.Passed l number result) r = record r { waiting = r.waiting - 1; shorts = false; passing = true; lane = lane_place l; number = number + 1 }
behind _ r = r

abbrev pub rest_of : Scenario → (number : ℕ) → List NumberedItem → Rest
rest_of s number [] = asked_if (command_at s number)
rest_of s number (t ∷ before) = if t.number == number then behind t.item (rest_of s number before) else rest_of s number before

-- ---- whether a line has given all

abbrev pub owes : Command → Rest → Bool
owes (commands.Bits link es count) r = nat_lt 0 r.low || nat_lt 0 r.high
owes (commands.Tick v) r = nat_lt 0 r.ticks || nat_lt 0 r.frames || r.lacks
owes (commands.Settle rounds) r = nat_lt 0 r.frames || nat_lt 0 r.waiting || r.lacks
owes _ r = false

abbrev pub owes_if : Option Command → Rest → Bool
owes_if None r = false
owes_if (Some command) r = owes command r

-- The item's line has to give more behind it.
abbrev pub owes_behind : Scenario → List NumberedItem → NumberedItem → Bool
owes_behind s before t = owes_if (command_at s t.number) (behind t.item (rest_of s t.number before))
