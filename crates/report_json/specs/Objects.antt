-- The JSON object of an item of a report. Names of keys, bytes and tags are texts as the report has them; numbers are numbers.
use Rattle.std.specs.Prelude.{ℕ, Bool, true, false, if◌then◌else◌, List, [], ◌∷◌, map, Option, Some, None}
use Rattle.std.specs.Str.{is_utf8}
use lib.Chars.{codes}
use Rattle.hex.specs.Hex.{encode_lower}
use Rattle.serde_json.specs.Data.{Data, array, object, Members, no_members, put}
use Rattle.serde_json.specs.View.{items_of}
use Rattle.qkd_base.specs.Name.{Name}
use Rattle.qkd_base.specs.declared.lane.Lane.{Lane}
use Rattle.net_model.specs.declared.held.Held.{Held}
use Rattle.net_model.specs.declared.held.Held.TheVariants as states
use Rattle.run_types.specs.declared.frame_result.FrameResult.{FrameResult}
use Rattle.run_types.specs.declared.frame_result.FrameResult.TheVariants as results
use Rattle.run_types.specs.declared.start_result.StartResult.{StartResult}
use Rattle.run_types.specs.declared.start_result.StartResult.TheVariants as starts
use Rattle.run_types.specs.declared.stream_answer.Chunk.{Chunk}
use Rattle.run_types.specs.declared.stream_answer.StreamAnswer.{StreamAnswer}
use Rattle.run_types.specs.declared.stream_answer.StreamAnswer.TheVariants as answers
use Rattle.run_types.specs.declared.item.Item.{Item}
use Rattle.run_types.specs.declared.item.Item.TheVariants as items
use Rattle.run_types.specs.declared.item.NumberedItem.{NumberedItem}
use Rattle.run_types.specs.Words.{way_text, end_text, name_text, node_text, kind_text, state_text, cause_text, up_text}
use Rattle.report_json.specs.Words.{Field, says, counts, refusal_fields}

-- These members are put in one after another. An object has its members in the order of their names.
abbrev pub put_all : Members → List Field → Members
put_all found [] = found
put_all found (f ∷ fields) = put_all (put f.0 f.1 found) fields

abbrev pub object_with : List Field → Data
object_with fields = object (put_all no_members fields)

-- ---- what several items tell

-- the report's word for an item
abbrev pub is_a : (word : List ℕ) → Field
is_a word = says (codes "kind") word

abbrev pub at_node : List (List ℕ) → ℕ → Field
at_node nodes v = says (codes "node") (node_text nodes v)

abbrev pub of_name : Name → Field
of_name name = says (codes "name") (name_text name)

abbrev pub has_bytes : List ℕ → Field
has_bytes bytes = says (codes "bytes") (encode_lower bytes)

abbrev pub on_lane : Lane → List Field → List Field
on_lane l more = counts (codes "link") l.link ∷ says (codes "way") (way_text l.way) ∷ more

-- ---- results and answers

abbrev pub result_fields : FrameResult → List Field
result_fields (results.Taken kind name) = says (codes "result") (codes "taken") ∷ says (codes "fact") (kind_text kind) ∷ of_name name ∷ []
result_fields (results.Again kind name) = says (codes "result") (codes "again") ∷ says (codes "fact") (kind_text kind) ∷ of_name name ∷ []
result_fields (results.Refused refusal) = refusal_fields refusal

abbrev pub start_fields : StartResult → List Field
start_fields starts.Started = is_a (codes "started") ∷ []
start_fields starts.WasUp = is_a (codes "up") ∷ []
start_fields starts.Stopped = is_a (codes "stopped") ∷ []
start_fields (starts.Foreign place) = is_a (codes "foreign") ∷ counts (codes "place") place ∷ []
start_fields starts.Memory = is_a (codes "memory") ∷ []

abbrev pub stream_fields : Option Name → List Field
stream_fields None = []
stream_fields (Some stream) = of_name stream ∷ []

abbrev pub chunk_fields : Option Chunk → List Field
chunk_fields None = []
chunk_fields (Some c) = counts (codes "index") c.index ∷ has_bytes c.bytes ∷ []

abbrev pub answer_fields : StreamAnswer → List Field
answer_fields (answers.OpenConnect status stream) = is_a (codes "OPEN_CONNECT") ∷ counts (codes "status") status ∷ stream_fields stream
answer_fields (answers.GetKey status chunk) = is_a (codes "GET_KEY") ∷ counts (codes "status") status ∷ chunk_fields chunk
answer_fields (answers.Close status) = is_a (codes "CLOSE") ∷ counts (codes "status") status ∷ []

-- ---- keys

abbrev pub key_object : Name × List ℕ → Data
key_object k = object_with (of_name k.0 ∷ has_bytes k.1 ∷ [])

abbrev pub keys_field : List (Name × List ℕ) → Field
keys_field keys = (codes "keys", array (items_of (map key_object keys)))

-- A node that knows no key of the name has no bytes of it.
abbrev pub shown_fields : Held → List ℕ → List Field
shown_fields states.Absent bytes = []
shown_fields held bytes = has_bytes bytes ∷ []

-- The body of a response is a text. Octets that are no UTF-8 are told in hexadecimal.
abbrev pub body_field : List ℕ → Field
body_field body = if is_utf8 body then says (codes "body") body else says (codes "octets") (encode_lower body)

-- ---- items

-- What an item tells, given the names of the nodes and the round of its line.
unfoldable pub item_fields : List (List ℕ) → (round : ℕ) → Item → List Field
item_fields nodes round (items.Refused refusal) = is_a (codes "refused") ∷ refusal_fields refusal
item_fields nodes round (items.Took link end number) = is_a (codes "bits") ∷ counts (codes "link") link ∷ says (codes "end") (end_text end) ∷ counts (codes "number") number ∷ []
item_fields nodes round (items.TookNone link end refusal) = is_a (codes "bits") ∷ counts (codes "link") link ∷ says (codes "end") (end_text end) ∷ refusal_fields refusal
item_fields nodes round (items.Made count first) = is_a (codes "made") ∷ counts (codes "count") count ∷ of_name first ∷ []
item_fields nodes round (items.Ticked v fresh again) = is_a (codes "tick") ∷ counts (codes "round") round ∷ at_node nodes v ∷ counts (codes "new") fresh ∷ counts (codes "again") again ∷ []
item_fields nodes round (items.Idle v) = is_a (codes "idle") ∷ at_node nodes v ∷ []
item_fields nodes round (items.NotTicked v refusal) = is_a (codes "tick") ∷ counts (codes "round") round ∷ at_node nodes v ∷ refusal_fields refusal
item_fields nodes round (items.Short l used need received) =
    is_a (codes "short") ∷ counts (codes "round") round ∷ on_lane l (counts (codes "used") used ∷ counts (codes "need") need ∷ counts (codes "received") received ∷ [])
item_fields nodes round (items.Sent l number offset length) =
    is_a (codes "sent") ∷ counts (codes "round") round ∷ on_lane l (counts (codes "number") number ∷ counts (codes "offset") offset ∷ counts (codes "length") length ∷ [])
item_fields nodes round (items.Unsent l offset cause) = is_a (codes "unsent") ∷ counts (codes "round") round ∷ on_lane l (counts (codes "offset") offset ∷ says (codes "cause") (cause_text cause) ∷ [])
item_fields nodes round (items.Passed l number result) = is_a (codes "pass") ∷ counts (codes "round") round ∷ on_lane l (counts (codes "number") number ∷ result_fields result)
item_fields nodes round (items.Flipped l number bit result) = is_a (codes "flip") ∷ on_lane l (counts (codes "number") number ∷ counts (codes "bit") bit ∷ result_fields result)
item_fields nodes round (items.Forged l result) = is_a (codes "forge") ∷ on_lane l (result_fields result)
item_fields nodes round items.Crashed = is_a (codes "crashed") ∷ []
item_fields nodes round (items.Start result) = start_fields result
item_fields nodes round items.Armed = is_a (codes "armed") ∷ []
item_fields nodes round (items.LinkSet link up) = is_a (codes "link") ∷ counts (codes "link") link ∷ says (codes "state") (up_text up) ∷ []
item_fields nodes round (items.Keys keys) = is_a (codes "keys") ∷ keys_field keys ∷ []
item_fields nodes round (items.Ready count) = is_a (codes "status") ∷ counts (codes "count") count ∷ []
item_fields nodes round (items.Http v status body) = is_a (codes "http") ∷ at_node nodes v ∷ counts (codes "status") status ∷ body_field body ∷ []
item_fields nodes round (items.Stream answer) = answer_fields answer
item_fields nodes round (items.Shown v name held bytes) = is_a (codes "show") ∷ at_node nodes v ∷ of_name name ∷ says (codes "state") (state_text held) ∷ shown_fields held bytes
item_fields nodes round (items.NotShown v name refusal) = is_a (codes "show") ∷ at_node nodes v ∷ of_name name ∷ refusal_fields refusal
item_fields nodes round (items.Counted l c) =
    is_a (codes "ledger") ∷ on_lane l (counts (codes "received") c.received ∷ counts (codes "unused") c.unused ∷ counts (codes "spent") c.spent ∷ counts (codes "burnt") c.burnt ∷ [])
item_fields nodes round (items.NotCounted l refusal) = is_a (codes "ledger") ∷ on_lane l (refusal_fields refusal)

-- the object of an item, with the number of its line
abbrev pub object_of : List (List ℕ) → (round : ℕ) → NumberedItem → Data
object_of nodes round told = object_with (counts (codes "line") told.number ∷ item_fields nodes round told.item)
