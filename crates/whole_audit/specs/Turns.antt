-- Rule 7, as to turns: which item a line may give next.
use Rattle.std.specs.Prelude.{ℕ, ◌+◌, ◌==◌, Bool, true, not, ◌&&◌, ◌||◌, nat_le, nat_lt, if◌then◌else◌, List, Option, Some, None}
use Rattle.qkd_base.specs.declared.lane.Lane.{Lane}
use Rattle.qkd_base.specs.Lane.{lane_place}
use Rattle.declared_site.specs.declared.site.Site.{Site}
use Rattle.run_types.specs.declared.end.End.{End}
use Rattle.run_types.specs.declared.end.End.TheVariants as end
use Rattle.run_types.specs.declared.command.Command.{Command}
use Rattle.run_types.specs.declared.command.Command.TheVariants as commands
use Rattle.run_types.specs.declared.item.Item.{Item}
use Rattle.run_types.specs.declared.item.Item.TheVariants as items
use Rattle.run_types.specs.declared.item.NumberedItem.{NumberedItem}
use Rattle.run_types.specs.declared.scenario.Scenario.{Scenario}
use Rattle.whole_audit.specs.declared.rests.Rest.{Rest}
use Rattle.whole_audit.specs.Lines.{command_at}
use Rattle.whole_audit.specs.Rests.{rest_of}
use Rattle.whole_audit.specs.Tracks.{in_block}
use Rattle.item_audit.specs.Sayings.{sender}

-- The ends take blocks by turns, the low end first.
abbrev pub gives_block : End → Rest → Bool
gives_block end.Low r = nat_lt 0 r.low && nat_le r.high r.low
gives_block end.High r = nat_lt r.low r.high

-- What a tick lacks stands before its frames, link by link.
abbrev pub comes_short : Lane → Rest → Bool
comes_short l r = r.shorts && nat_le r.link l.link

abbrev pub gives_tick : Item → Rest → Bool
gives_tick (items.Ticked v fresh again) r = nat_lt 0 r.ticks
gives_tick (items.Idle v) r = nat_lt 0 r.ticks
gives_tick (items.NotTicked v refusal) r = nat_lt 0 r.ticks
gives_tick (items.Sent l number offset length) r = nat_lt 0 r.frames
gives_tick (items.Unsent l offset cause) r = nat_lt 0 r.frames
gives_tick (items.Short l used need received) r = comes_short l r
gives_tick _ r = true

-- The frames of a round come lane by lane, those of a lane in order of their numbers.
abbrev pub comes_next : Lane → (number : ℕ) → Rest → Bool
comes_next l number r = nat_lt r.lane (lane_place l) || ((r.lane == lane_place l) && nat_le r.number number)

-- A tick is over when all its frames are put, and what it lacks is told where it puts none.
abbrev pub is_over : Rest → Bool
is_over r = (r.frames == 0) && not r.lacks

-- The nodes of a round tick in order. Another round may begin when all frames have come that were put in this one.
abbrev pub ticks_next : (node : ℕ) → Rest → Bool
ticks_next v r = is_over r && (if r.passing then (r.waiting == 0) && nat_lt 0 r.rounds else nat_le r.node v)

-- What a settle puts, and what it lacks, is of lanes that leave the node that ticked last.
abbrev pub is_ticking : Site → Lane → Rest → Bool
is_ticking site l r = sender site l + 1 == r.node

abbrev pub gives_settle : Site → Item → Rest → Bool
gives_settle site (items.Ticked v fresh again) r = ticks_next v r
gives_settle site (items.NotTicked v refusal) r = ticks_next v r
gives_settle site (items.Short l used need received) r = comes_short l r && is_ticking site l r
gives_settle site (items.Sent l number offset length) r = nat_lt 0 r.frames && is_ticking site l r
gives_settle site (items.Unsent l offset cause) r = nat_lt 0 r.frames && is_ticking site l r
gives_settle site (items.Passed l number result) r = is_over r && nat_lt 0 r.waiting && comes_next l number r
gives_settle site _ r = true

abbrev pub gives_bits : Item → Rest → Bool
gives_bits (items.Took link e number) r = gives_block e r
gives_bits (items.TookNone link e refusal) r = gives_block e r
gives_bits _ r = true

abbrev pub gives : Site → Command → Item → Rest → Bool
gives site (commands.Bits link es count) item r = gives_bits item r
gives site (commands.Tick v) item r = gives_tick item r
gives site (commands.Settle rounds) item r = gives_settle site item r
gives site _ item r = true

abbrev pub gives_if : Site → Option Command → Item → Rest → Bool
gives_if site None item r = true
gives_if site (Some command) item r = gives site command item r

abbrev pub gives_next : Scenario → List NumberedItem → NumberedItem → Bool
gives_next s before t = gives_if s.site (command_at s t.number) t.item (rest_of s t.number before)

-- ---- the order of a tick's frames

-- Frames stand link by link, and those of a link in order of their offsets: what goes out again, and then what is new.
abbrev pub stands_behind : Lane → (offset : ℕ) → Rest → Bool
stands_behind l offset r = r.shorts || nat_lt r.link l.link || ((r.link == l.link) && nat_le r.offset offset)

abbrev pub follows_frame : Item → Rest → Bool
follows_frame (items.Sent l number offset length) r = stands_behind l offset r
follows_frame (items.Unsent l offset cause) r = stands_behind l offset r
follows_frame _ r = true

-- In a block the frames of several ticks stand together, lane by lane.
abbrev pub is_in_turn : Scenario → List NumberedItem → NumberedItem → Bool
is_in_turn s before t = in_block s before t || follows_frame t.item (rest_of s t.number before)
