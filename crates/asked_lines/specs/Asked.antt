-- Which items of a report a person asked for.
use Rattle.std.specs.Prelude.{Bool, true, false}
use Rattle.run_types.specs.declared.frame_result.FrameResult.{FrameResult}
use Rattle.run_types.specs.declared.frame_result.FrameResult.TheVariants as results
use Rattle.run_types.specs.declared.start_result.StartResult.TheVariants as starts
use Rattle.run_types.specs.declared.item.Item.{Item}
use Rattle.run_types.specs.declared.item.Item.TheVariants as items

abbrev pub is_refused : FrameResult → Bool
is_refused (results.Refused refusal) = true
is_refused _ = false

-- All but what went well by itself: blocks of bytes that came, ticks, frames that were sent or taken, and lines that
-- change a node, a disk or a link as they were to.
abbrev pub is_asked : Item → Bool
is_asked (items.Took link end number) = false
is_asked (items.Ticked node fresh again) = false
is_asked (items.Idle node) = false
is_asked (items.Sent lane number offset length) = false
is_asked (items.Passed lane number result) = is_refused result
is_asked items.Crashed = false
is_asked (items.Start starts.Started) = false
is_asked (items.Start starts.WasUp) = false
is_asked items.Armed = false
is_asked (items.LinkSet link up) = false
is_asked _ = true
