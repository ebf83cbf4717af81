-- The frames that are sent again at the next tick, from an offset on.
use Rattle.std.specs.Prelude.{ℕ, ◌&&◌, nat_lt, Bool, true, List, map, filter, Option, Some, None, if◌then◌else◌}
use Rattle.qkd_base.specs.Lane.{lane_eq}
use Rattle.qkd_base.specs.declared.lane.Lane.{Lane}
use Rattle.net_model.specs.declared.repeat.Repeat.{Repeat}
use Rattle.net_model.specs.World.{Entry}
use Rattle.net_model.specs.Window.{by_offset, repeat_of}
use Rattle.resend_window.specs.declared.held.Held.{Held}
use Rattle.resend_window.specs.Held.{entries_at, is_next_on}

-- the offset is above `after`, or `after` is none
abbrev pub is_above : Option ℕ → ℕ → Bool
is_above None x = true
is_above (Some a) x = nat_lt a x

-- the frame is due on this lane at this tick, and its offset is above `after`
abbrev pub goes_after : ℕ → Lane → Option ℕ → Held → Bool
goes_after tick l after h = is_next_on tick l h && is_above after h.offset

abbrev pub offset_after : ℕ → Lane → Option ℕ → Option Held → Option ℕ
offset_after tick l after None = None
offset_after tick l after (Some h) = if goes_after tick l after h then Some h.offset else None

-- all entries that are due on this lane, in order of offset
abbrev pub due_on : ℕ → Lane → List Held → List Entry
due_on tick l hs = by_offset (filter (λ e. lane_eq e.transmission.lane l && e.due) (entries_at tick hs))

-- the due entries of this lane above `after`, as repeats
abbrev pub rest_after : ℕ → Lane → List Held → Option ℕ → List Repeat
rest_after tick l hs after = map repeat_of (filter (λ e. is_above after e.offset) (due_on tick l hs))
