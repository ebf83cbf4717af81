-- The items that are reported of an outcome. An outcome that the line never has gives none.
use Rattle.std.specs.Prelude.{ℕ, Bool, true, false, List, [], ◌∷◌, length, map, Option, Some, None, if◌then◌else◌}
use Rattle.qkd_base.specs.Name.{Name}
use Rattle.qkd_base.specs.declared.lane.Lane.{Lane}
use Rattle.net_model.specs.declared.order.Order.{Order}
use Rattle.net_model.specs.declared.repeat.Repeat.{Repeat}
use Rattle.net_model.specs.declared.short_of.ShortOf.{ShortOf}
use Rattle.net_model.specs.declared.reply.Reply.{Reply}
use Rattle.net_model.specs.declared.reply.Reply.TheVariants as replies
use Rattle.net_model.specs.World.{World}
use Rattle.net_model.specs.Ledger.{ledger}
use Rattle.net_model.specs.Action.{Outcome, Replies, Started, WasUp, StartStopped, StartMemory, ForeignAt, Crashed, Armed, LinkSet, Put, Unsent}
use Rattle.run_types.specs.declared.end.End.{End}
use Rattle.run_types.specs.declared.stream_call.StreamCall.{StreamCall}
use Rattle.run_types.specs.declared.stream_call.StreamCall.TheVariants as calls
use Rattle.run_types.specs.declared.payload_kind.PayloadKind.{PayloadKind}
use Rattle.run_types.specs.declared.frame_result.FrameResult.{FrameResult}
use Rattle.run_types.specs.declared.frame_result.FrameResult.TheVariants as results
use Rattle.run_types.specs.declared.start_result.StartResult.TheVariants as starts
use Rattle.run_types.specs.declared.stream_answer.Chunk.{Chunk}
use Rattle.run_types.specs.declared.stream_answer.StreamAnswer.{StreamAnswer}
use Rattle.run_types.specs.declared.stream_answer.StreamAnswer.TheVariants as answers
use Rattle.run_types.specs.declared.unsent_cause.UnsentCause.{UnsentCause}
use Rattle.run_types.specs.declared.unsent_cause.UnsentCause.TheVariants as causes
use Rattle.run_types.specs.declared.item.Item.{Item}
use Rattle.run_types.specs.declared.item.Item.TheVariants as items
use Rattle.run_model.specs.Refusals.{refused_in, reported_by, kind_of_octet}

-- ---- requests of applications

abbrev pub made_items : Outcome → List Item
made_items (Replies (replies.MadeKeys count first)) = items.Made count first ∷ []
made_items out = reported_by items.Refused (refused_in out)

abbrev pub handed_items : Outcome → List Item
handed_items (Replies (replies.Handed keys)) = items.Keys keys ∷ []
handed_items out = reported_by items.Refused (refused_in out)

abbrev pub status_items : Outcome → List Item
status_items (Replies (replies.ReadyCount count)) = items.Ready count ∷ []
status_items out = reported_by items.Refused (refused_in out)

abbrev pub chunk_in : ℕ → List ℕ → Option Chunk
chunk_in index [] = None
chunk_in index (b ∷ bytes) = Some (record { index = index; bytes = b ∷ bytes })

abbrev pub answer_to : StreamCall → ℕ → Option Name → ℕ → List ℕ → StreamAnswer
answer_to (calls.Open source peer bits) status stream index bytes = answers.OpenConnect status stream
answer_to (calls.Join caller source named bits) status stream index bytes = answers.OpenConnect status stream
answer_to (calls.Get caller named at) status stream index bytes = answers.GetKey status (chunk_in index bytes)
answer_to (calls.Close caller named) status stream index bytes = answers.Close status

abbrev pub stream_items : StreamCall → Outcome → List Item
stream_items call (Replies (replies.Stream status stream index bytes)) = items.Stream (answer_to call status stream index bytes) ∷ []
stream_items call out = reported_by items.Refused (refused_in out)

abbrev pub http_items : ℕ → (Reply → ℕ × List ℕ) → Outcome → List Item
http_items v response (Replies reply) = items.Http v (response reply).0 (response reply).1 ∷ []
http_items v response _ = []

abbrev pub show_items : ℕ → Name → Outcome → List Item
show_items v n (Replies (replies.Shown held bytes)) = items.Shown v n held bytes ∷ []
show_items v n out = reported_by (items.NotShown v n) (refused_in out)

-- the world's own count of a lane, if the manager of its sender answers
abbrev pub ledger_items : Lane → World → Outcome → List Item
ledger_items l w (Replies (replies.Counted counts)) = items.Counted l (ledger w l) ∷ []
ledger_items l w out = reported_by (items.NotCounted l) (refused_in out)

-- ---- frames

abbrev pub heard : Bool → Name → Option PayloadKind → List FrameResult
heard fresh name None = []
heard true name (Some kind) = results.Taken kind name ∷ []
heard false name (Some kind) = results.Again kind name ∷ []

-- the items of a frame that a receiver gets, unchanged or changed
abbrev pub frame_items : (FrameResult → Item) → Outcome → List Item
frame_items item (Replies (replies.HeardFact fresh kind name)) = map item (heard fresh name (kind_of_octet kind))
frame_items item out = reported_by (λ r. item (results.Refused r)) (refused_in out)

abbrev pub cause_of : (for_memory : Bool) → UnsentCause
cause_of true = causes.Memory
cause_of false = causes.WireFault

-- the items of a frame that is put
abbrev pub put_items : Lane → (offset size : ℕ) → Outcome → List Item
put_items l offset size (Put number) = items.Sent l number offset size ∷ []
put_items l offset size (Unsent for_memory) = items.Unsent l offset (cause_of for_memory) ∷ []
put_items l offset size _ = []

-- ---- link bytes, starts and crashes of managers, disks and links

abbrev pub block_items : ℕ → End → Outcome → List Item
block_items link end (Replies (replies.Took number)) = items.Took link end number ∷ []
block_items link end out = reported_by (items.TookNone link end) (refused_in out)

abbrev pub crash_items : Outcome → List Item
crash_items Crashed = items.Crashed ∷ []
crash_items out = reported_by items.Refused (refused_in out)

abbrev pub start_items : Outcome → List Item
start_items Started = items.Start starts.Started ∷ []
start_items WasUp = items.Start starts.WasUp ∷ []
start_items StartStopped = items.Start starts.Stopped ∷ []
start_items (ForeignAt place) = items.Start (starts.Foreign place) ∷ []
start_items StartMemory = items.Start starts.Memory ∷ []
start_items _ = []

abbrev pub arm_items : Outcome → List Item
arm_items Armed = items.Armed ∷ []
arm_items _ = []

abbrev pub link_items : ℕ → Bool → Outcome → List Item
link_items link up LinkSet = items.LinkSet link up ∷ []
link_items link up _ = []

-- ---- A plan: its counts, and then the lanes that are short. A plan with nothing to do is idle; in a settle it isn't
-- reported.

abbrev pub is_idle : List Order → List Repeat → List ShortOf → Bool
is_idle [] [] [] = true
is_idle _ _ _ = false

abbrev pub idle_items : (quiet : Bool) → ℕ → List Item
idle_items true v = []
idle_items false v = items.Idle v ∷ []

abbrev pub short_item : ShortOf → Item
short_item s = items.Short s.lane s.used s.need s.received

abbrev pub plan_items : (quiet : Bool) → ℕ → Outcome → List Item
plan_items quiet v (Replies (replies.Planned orders repeats shorts)) =
    if is_idle orders repeats shorts then idle_items quiet v else items.Ticked v (length orders) (length repeats) ∷ map short_item shorts
plan_items quiet v out = reported_by (items.NotTicked v) (refused_in out)
