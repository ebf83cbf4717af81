-- Which items a line of a scenario gives.
use Rattle.std.specs.Prelude.{ℕ, Bool, true, false, ◌&&◌, ◌||◌, ◌==◌, Option, Some, None, is_some, is_none}
use Rattle.qkd_base.specs.declared.lane.Lane.{Lane}
use Rattle.route_table.specs.Table.{Table, ends_of}
use Rattle.run_types.specs.declared.refusal.Refusal.{Refusal}
use Rattle.run_types.specs.declared.refusal.Refusal.TheVariants as refusals
use Rattle.run_types.specs.declared.start_result.StartResult.TheVariants as starts
use Rattle.run_types.specs.declared.stream_answer.StreamAnswer.{StreamAnswer}
use Rattle.run_types.specs.declared.stream_answer.StreamAnswer.TheVariants as answers
use Rattle.run_types.specs.declared.item.Item.{Item}
use Rattle.run_types.specs.declared.item.Item.TheVariants as items
use Rattle.run_audit.specs.declared.line_kind.LineKind.{LineKind}
use Rattle.run_audit.specs.declared.line_kind.LineKind.TheVariants as kinds

-- ---- refusals

-- The refusal whose text an item has. A start that ended stopped, or for lack of memory, has the text of a refusal.
abbrev pub refusal_of : Item → Option Refusal
refusal_of (items.Refused refusal) = Some refusal
refusal_of (items.Start starts.Stopped) = Some refusals.Stopped
refusal_of (items.Start starts.Memory) = Some refusals.Memory
refusal_of _ = None

abbrev pub is_refused : Item → Bool
is_refused item = is_some (refusal_of item)

abbrev pub is_down : Option Refusal → Bool
is_down (Some refusals.Down) = true
is_down _ = false

abbrev pub is_stopped : Option Refusal → Bool
is_stopped (Some refusals.Stopped) = true
is_stopped _ = false

abbrev pub is_memory : Option Refusal → Bool
is_memory (Some refusals.Memory) = true
is_memory _ = false

-- ---- the other rows

abbrev pub is_foreign : Item → Bool
is_foreign (items.Start (starts.Foreign place)) = true
is_foreign _ = false

abbrev pub is_start : Item → Bool
is_start (items.Start result) = true
is_start _ = false

abbrev pub is_of_bits : Item → Bool
is_of_bits (items.Took link end number) = true
is_of_bits (items.TookNone link end refusal) = true
is_of_bits _ = false

abbrev pub is_made : Item → Bool
is_made (items.Made count first) = true
is_made _ = false

-- The item is a tick's, or one of those that follow a tick's in the report.
abbrev pub is_of_tick : Item → Bool
is_of_tick (items.Ticked v fresh again) = true
is_of_tick (items.NotTicked v refusal) = true
is_of_tick (items.Short l used need received) = true
is_of_tick (items.Sent l number offset length) = true
is_of_tick (items.Unsent l offset cause) = true
is_of_tick _ = false

abbrev pub is_idle : Item → Bool
is_idle (items.Idle v) = true
is_idle _ = false

abbrev pub is_passed : Item → Bool
is_passed (items.Passed l number result) = true
is_passed _ = false

abbrev pub is_flipped : Item → Bool
is_flipped (items.Flipped l number bit result) = true
is_flipped _ = false

abbrev pub is_forged : Item → Bool
is_forged (items.Forged l result) = true
is_forged _ = false

abbrev pub is_crashed : Item → Bool
is_crashed items.Crashed = true
is_crashed _ = false

abbrev pub is_armed : Item → Bool
is_armed items.Armed = true
is_armed _ = false

abbrev pub is_link_set : Item → Bool
is_link_set (items.LinkSet link up) = true
is_link_set _ = false

abbrev pub is_keys : Item → Bool
is_keys (items.Keys keys) = true
is_keys _ = false

abbrev pub is_ready : Item → Bool
is_ready (items.Ready count) = true
is_ready _ = false

abbrev pub is_http : Item → Bool
is_http (items.Http v status body) = true
is_http _ = false

abbrev pub is_shown : Item → Bool
is_shown (items.Shown v name held bytes) = true
is_shown (items.NotShown v name refusal) = true
is_shown _ = false

abbrev pub is_ledger : Item → Bool
is_ledger (items.Counted l counts) = true
is_ledger (items.NotCounted l refusal) = true
is_ledger _ = false

-- ---- answers to stream calls

abbrev pub same : Bool → Bool → Bool
same true b = b
same false true = false
same false false = true

-- OPEN_CONNECT names a stream exactly if it has this status: 1 if the stream was opened, 0 if it was joined.
abbrev pub is_connected : (status : ℕ) → Item → Bool
is_connected at (items.Stream (answers.OpenConnect status stream)) = same (status == at) (is_some stream)
is_connected at _ = false

-- GET_KEY has a chunk exactly if its status is 0.
abbrev pub is_got : Item → Bool
is_got (items.Stream (answers.GetKey status chunk)) = same (status == 0) (is_some chunk)
is_got _ = false

abbrev pub is_closed : Item → Bool
is_closed (items.Stream (answers.Close status)) = true
is_closed _ = false

-- ---- all items of a line

-- The line gives items of this row, or of another row with the same text.
abbrev pub gives : LineKind → Item → Bool
gives kinds.Node item = is_stopped (refusal_of item) || is_foreign item
gives kinds.Bits item = is_of_bits item
gives kinds.Making item = is_made item || is_refused item
gives kinds.Tick item = is_of_tick item || is_idle item
gives kinds.Settle item = is_of_tick item || is_passed item
gives kinds.Pass item = is_passed item
gives kinds.Flip item = is_flipped item
gives kinds.Forge item = is_forged item
gives kinds.Crash item = is_crashed item || is_down (refusal_of item)
gives kinds.Start item = is_start item || is_stopped (refusal_of item) || is_memory (refusal_of item)
gives kinds.Arming item = is_armed item
gives kinds.LinkSetting item = is_link_set item
gives (kinds.Handing caller master) item = is_keys item || is_refused item
gives kinds.Status item = is_ready item || is_refused item
gives kinds.Http item = is_http item
gives kinds.Opening item = is_connected 1 item || is_refused item
gives kinds.Joining item = is_connected 0 item || is_refused item
gives (kinds.Getting caller stream) item = is_got item || is_refused item
gives kinds.Closing item = is_closed item || is_refused item
gives kinds.Show item = is_shown item
gives kinds.Ledger item = is_ledger item

abbrev pub gives_at : Option LineKind → Item → Bool
gives_at None item = false
gives_at (Some kind) item = gives kind item

-- ---- links

-- the link that an item names, if it names one
abbrev pub link_of : Item → Option ℕ
link_of (items.Took link end number) = Some link
link_of (items.TookNone link end refusal) = Some link
link_of (items.Short l used need received) = Some l.link
link_of (items.Sent l number offset length) = Some l.link
link_of (items.Unsent l offset cause) = Some l.link
link_of (items.Passed l number result) = Some l.link
link_of (items.Flipped l number bit result) = Some l.link
link_of (items.Forged l result) = Some l.link
link_of (items.LinkSet link up) = Some link
link_of (items.Counted l counts) = Some l.link
link_of (items.NotCounted l refusal) = Some l.link
link_of _ = None

abbrev pub has_link : Table → Option ℕ → Bool
has_link t None = true
has_link t (Some link) = is_some (ends_of t link)

-- The link that the item names is declared.
abbrev pub is_on_link : Table → Item → Bool
is_on_link t item = has_link t (link_of item)
