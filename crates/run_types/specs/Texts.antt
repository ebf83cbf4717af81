-- The texts of a report and of its items.
use Rattle.std.specs.Prelude.{ℕ, List, [], ◌∷◌, ◌++◌, Option, Some, None}
use Rattle.std.specs.List.{flat_map}
use lib.Chars.{codes}
use Rattle.std.specs.Fmt.{decimal}
use Rattle.hex.specs.Hex.{encode_lower}
use Rattle.qkd_base.specs.Name.{Name}
use Rattle.net_model.specs.declared.held.Held.{Held}
use Rattle.net_model.specs.declared.held.Held.TheVariants as states
use Rattle.run_types.specs.declared.refusal.Refusal.{Refusal}
use Rattle.run_types.specs.declared.refusal.Refusal.TheVariants as refusals
use Rattle.run_types.specs.declared.frame_result.FrameResult.{FrameResult}
use Rattle.run_types.specs.declared.frame_result.FrameResult.TheVariants as results
use Rattle.run_types.specs.declared.start_result.StartResult.{StartResult}
use Rattle.run_types.specs.declared.start_result.StartResult.TheVariants as starts
use Rattle.run_types.specs.declared.stream_answer.Chunk.{Chunk}
use Rattle.run_types.specs.declared.stream_answer.StreamAnswer.{StreamAnswer}
use Rattle.run_types.specs.declared.stream_answer.StreamAnswer.TheVariants as answers
use Rattle.run_types.specs.declared.item.Item.{Item}
use Rattle.run_types.specs.declared.item.Item.TheVariants as items
use Rattle.run_types.specs.declared.item.NumberedItem.{NumberedItem}
use Rattle.run_types.specs.Words.{words, end_text, lane_text, name_text, node_text, tag_text, kind_text, state_text, cause_text, up_text, bytes_text, counts_words}

unfoldable pub refusal_text : Refusal → List ℕ
refusal_text refusals.Down = codes "down"
refusal_text refusals.Stopped = codes "stopped"
refusal_text refusals.Memory = codes "memory"
refusal_text refusals.LinkFull = codes "link-full 1024"
refusal_text refusals.NoBlock = codes "no-bits"
refusal_text refusals.DeviceFault = codes "device-fault"
refusal_text refusals.NotAllowed = codes "not-allowed"
refusal_text refusals.NoRoute = codes "no-route"
refusal_text refusals.PoolFull = codes "pool-full 4096"
refusal_text refusals.UnknownStream = codes "unknown-stream"
refusal_text (refusals.JournalFull length need) = words (codes "journal-full" ∷ decimal length ∷ decimal need ∷ [])
refusal_text refusals.NoRandom = codes "no-random"
refusal_text (refusals.NoFrame count) = words (codes "no-frame" ∷ decimal count ∷ [])
refusal_text (refusals.NoBit bits) = words (codes "no-bit" ∷ decimal bits ∷ [])
refusal_text (refusals.BadFrame place) = words (codes "bad-frame" ∷ decimal place ∷ [])
refusal_text (refusals.WrongLane link way) = words (codes "wrong-lane" ∷ decimal link ∷ decimal way ∷ [])
refusal_text (refusals.NoBits have) = words (codes "no-bits" ∷ decimal have ∷ [])
refusal_text (refusals.BadTag given computed) = words (codes "bad-tag" ∷ tag_text given ∷ tag_text computed ∷ [])
refusal_text (refusals.Few count) = words (codes "few" ∷ decimal count ∷ [])
refusal_text (refusals.Unknown place) = words (codes "unknown" ∷ decimal place ∷ [])
refusal_text (refusals.Repeated place) = words (codes "repeated" ∷ decimal place ∷ [])
refusal_text (refusals.Handed place) = words (codes "handed" ∷ decimal place ∷ [])

unfoldable pub result_text : FrameResult → List ℕ
result_text (results.Taken kind name) = words (codes "taken" ∷ kind_text kind ∷ name_text name ∷ [])
result_text (results.Again kind name) = words (codes "again" ∷ kind_text kind ∷ name_text name ∷ [])
result_text (results.Refused refusal) = refusal_text refusal

unfoldable pub start_text : StartResult → List ℕ
start_text starts.Started = codes "started"
start_text starts.WasUp = codes "up"
start_text starts.Stopped = codes "stopped"
start_text (starts.Foreign place) = words (codes "foreign" ∷ decimal place ∷ [])
start_text starts.Memory = codes "memory"

abbrev pub stream_words : Option Name → List (List ℕ)
stream_words None = []
stream_words (Some stream) = name_text stream ∷ []

abbrev pub chunk_words : Option Chunk → List (List ℕ)
chunk_words None = []
chunk_words (Some c) = decimal c.index ∷ encode_lower c.bytes ∷ []

-- the line that answers a call on streams
unfoldable pub answer_text : StreamAnswer → List ℕ
answer_text (answers.OpenConnect status stream) = words (codes "OPEN_CONNECT" ∷ decimal status ∷ stream_words stream)
answer_text (answers.GetKey status chunk) = words (codes "GET_KEY" ∷ decimal status ∷ chunk_words chunk)
answer_text (answers.Close status) = words (codes "CLOSE" ∷ decimal status ∷ [])

abbrev pub shown_words : Held → List ℕ → List (List ℕ)
shown_words states.Absent bytes = state_text states.Absent ∷ []
shown_words held bytes = state_text held ∷ bytes_text bytes ∷ []

abbrev pub key_words : Name × List ℕ → List (List ℕ)
key_words k = name_text k.0 ∷ encode_lower k.1 ∷ []

-- the text of an item, given the names of the nodes
unfoldable pub item_text : List (List ℕ) → Item → List ℕ
item_text nodes (items.Refused refusal) = refusal_text refusal
item_text nodes (items.Took link end number) = words (codes "bits" ∷ decimal link ∷ end_text end ∷ decimal number ∷ [])
item_text nodes (items.TookNone link end refusal) = words (codes "bits" ∷ decimal link ∷ end_text end ∷ refusal_text refusal ∷ [])
item_text nodes (items.Made count first) = words (codes "made" ∷ decimal count ∷ name_text first ∷ [])
item_text nodes (items.Ticked v fresh again) = words (codes "tick" ∷ node_text nodes v ∷ codes "new" ∷ decimal fresh ∷ codes "again" ∷ decimal again ∷ [])
item_text nodes (items.Idle v) = words (codes "idle" ∷ node_text nodes v ∷ [])
item_text nodes (items.NotTicked v refusal) = words (codes "tick" ∷ node_text nodes v ∷ refusal_text refusal ∷ [])
item_text nodes (items.Short l used need received) = words (codes "short" ∷ lane_text l ∷ decimal used ∷ decimal need ∷ decimal received ∷ [])
item_text nodes (items.Sent l number offset length) = words (codes "sent" ∷ lane_text l ∷ decimal number ∷ decimal offset ∷ decimal length ∷ [])
item_text nodes (items.Unsent l offset cause) = words (codes "unsent" ∷ lane_text l ∷ decimal offset ∷ cause_text cause ∷ [])
item_text nodes (items.Passed l number result) = words (codes "pass" ∷ lane_text l ∷ decimal number ∷ result_text result ∷ [])
item_text nodes (items.Flipped l number bit result) = words (codes "flip" ∷ lane_text l ∷ decimal number ∷ decimal bit ∷ result_text result ∷ [])
item_text nodes (items.Forged l result) = words (codes "forge" ∷ lane_text l ∷ result_text result ∷ [])
item_text nodes items.Crashed = codes "crashed"
item_text nodes (items.Start result) = start_text result
item_text nodes items.Armed = codes "armed"
item_text nodes (items.LinkSet link up) = words (codes "link" ∷ decimal link ∷ up_text up ∷ [])
item_text nodes (items.Keys keys) = words (codes "keys" ∷ flat_map key_words keys)
item_text nodes (items.Ready count) = words (codes "status" ∷ decimal count ∷ [])
item_text nodes (items.Http v status body) = words (codes "http" ∷ node_text nodes v ∷ decimal status ∷ body ∷ [])
item_text nodes (items.Stream answer) = answer_text answer
item_text nodes (items.Shown v name held bytes) = words (codes "show" ∷ node_text nodes v ∷ name_text name ∷ shown_words held bytes)
item_text nodes (items.NotShown v name refusal) = words (codes "show" ∷ node_text nodes v ∷ name_text name ∷ refusal_text refusal ∷ [])
item_text nodes (items.Counted l counts) = words (codes "ledger" ∷ lane_text l ∷ counts_words counts)
item_text nodes (items.NotCounted l refusal) = words (codes "ledger" ∷ lane_text l ∷ refusal_text refusal ∷ [])

-- a line of the report: the number of the scenario's line, a space, the text of the item, and a line feed
unfoldable pub line_text : List (List ℕ) → NumberedItem → List ℕ
line_text nodes told = decimal told.number ++ codes " " ++ item_text nodes told.item ++ 10 ∷ []

unfoldable pub report_text : List (List ℕ) → List NumberedItem → List ℕ
report_text nodes told = flat_map (line_text nodes) told

-- the last lines of a report have no number: they tell of a generated load, and of connections that were served
unfoldable pub handed_text : (masters slaves : ℕ) → List ℕ
handed_text masters slaves = words (codes "handed" ∷ decimal masters ∷ decimal slaves ∷ []) ++ 10 ∷ []

unfoldable pub served_text : ℕ → List ℕ
served_text count = words (codes "served" ∷ decimal count ∷ []) ++ 10 ∷ []
