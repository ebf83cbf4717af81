-- The rows of a report: for each first word, the item that the words behind it give. At the end, a whole line.
use Rattle.std.specs.Prelude.{ℕ, Bool, ◌||◌, if◌then◌else◌, List, [], ◌∷◌, ◌++◌, take, drop, Option, Some, None}
use Rattle.std.specs.Str.{bytes_eq}
use lib.Chars.{codes}
use Rattle.qkd_base.specs.declared.lane.Lane.{Lane}
use Rattle.qkd_base.specs.Name.{Name}
use Rattle.net_model.specs.declared.held.Held.{Held}
use Rattle.net_model.specs.declared.held.Held.TheVariants as states
use Rattle.run_types.specs.declared.end.End.{End}
use Rattle.scenario_text.specs.Words.{◌>>=◌, Word, first_of, one_of, two_of, three_of, len_to, number_of}
use Rattle.scenario_text.specs.Fields.{name_of}
use Rattle.run_types.specs.declared.start_result.StartResult.TheVariants as starts
use Rattle.run_types.specs.declared.stream_answer.Chunk.{Chunk}
use Rattle.run_types.specs.declared.stream_answer.StreamAnswer.TheVariants as answers
use Rattle.run_types.specs.declared.item.Item.{Item}
use Rattle.run_types.specs.declared.item.Item.TheVariants as items
use Rattle.run_types.specs.declared.item.NumberedItem.{NumberedItem}
use Rattle.run_types.specs.Words.{words}
use Rattle.report_grammar.specs.Words.{words_in, is_over, without_end}
use Rattle.report_grammar.specs.Fields.{long_of, short_of, byte_of, node_of, link_of, lane_of, end_of, up_of, state_of, cause_of, octets_of, bytes_of}
use Rattle.report_grammar.specs.Refusals.{refusal_at, result_at}

-- ---- links, ticks, frames and lanes

-- `bits LINK END NUMBER` or `bits LINK END REFUSAL`
abbrev pub took_or_none : (link : ℕ) → End → List Word → Option ℕ → Option Item
took_or_none link end ws (Some number) = Some (items.Took link end number)
took_or_none link end ws None = refusal_at ws >>= λ refusal. Some (items.TookNone link end refusal)

unfoldable pub took_at : (link : ℕ) → End → List Word → Option Item
took_at link end ws = do
  w ← first_of ws
  took_or_none link end ws (number_of w.0)

unfoldable pub bits_at : List Word → Option Item
bits_at ws = do
  a ← first_of ws
  b ← first_of a.1
  link ← link_of a.0
  end ← end_of b.0
  took_at link end b.1

-- `tick NAME new A again B`
unfoldable pub ticked_at : (node : ℕ) → List Word → Option Item
ticked_at node ws = do
  w ← three_of ws
  fresh ← number_of w.0
  again ← number_of w.2
  Some (items.Ticked node fresh again)

unfoldable pub not_ticked_at : (node : ℕ) → List Word → Option Item
not_ticked_at node ws = do
  refusal ← refusal_at ws
  Some (items.NotTicked node refusal)

-- `tick NAME new A again B` or `tick NAME REFUSAL`
unfoldable pub tick_at : List (List ℕ) → List Word → Option Item
tick_at nodes ws = do
  a ← first_of ws
  node ← node_of nodes a.0
  b ← first_of a.1
  if bytes_eq b.0 (codes "new") then ticked_at node b.1 else not_ticked_at node a.1

-- `idle NAME`
unfoldable pub idle_at : List (List ℕ) → List Word → Option Item
idle_at nodes ws = do
  w ← one_of ws
  node ← node_of nodes w
  Some (items.Idle node)

-- `short LINK WAY USED NEED RECEIVED`
unfoldable pub short_at : Lane → List Word → Option Item
short_at lane ws = do
  w ← three_of ws
  used ← long_of w.0
  need ← long_of w.1
  received ← long_of w.2
  Some (items.Short lane used need received)

-- `sent LINK WAY NUMBER OFFSET LENGTH`
unfoldable pub sent_at : Lane → List Word → Option Item
sent_at lane ws = do
  w ← three_of ws
  number ← long_of w.0
  offset ← long_of w.1
  length ← short_of w.2
  Some (items.Sent lane number offset length)

-- `unsent LINK WAY OFFSET CAUSE`
unfoldable pub unsent_at : Lane → List Word → Option Item
unsent_at lane ws = do
  w ← two_of ws
  offset ← long_of w.0
  cause ← cause_of w.1
  Some (items.Unsent lane offset cause)

-- `pass LINK WAY NUMBER RESULT`
unfoldable pub passed_at : Lane → List Word → Option Item
passed_at lane ws = do
  w ← first_of ws
  number ← number_of w.0
  result ← result_at w.1
  Some (items.Passed lane number result)

-- `flip LINK WAY NUMBER BIT RESULT`
unfoldable pub flipped_at : Lane → List Word → Option Item
flipped_at lane ws = do
  a ← first_of ws
  b ← first_of a.1
  number ← number_of a.0
  bit ← number_of b.0
  result ← result_at b.1
  Some (items.Flipped lane number bit result)

-- `forge LINK WAY RESULT`
unfoldable pub forged_at : Lane → List Word → Option Item
forged_at lane ws = do
  result ← result_at ws
  Some (items.Forged lane result)

-- `link LINK up` or `link LINK down`
unfoldable pub link_set_at : List Word → Option Item
link_set_at ws = do
  w ← two_of ws
  link ← link_of w.0
  up ← up_of w.1
  Some (items.LinkSet link up)

-- `ledger LINK WAY received R unused U spent S burnt B`, from R on
unfoldable pub counted_at : Lane → List Word → Option Item
counted_at lane ws = do
  a ← first_of ws
  b ← first_of a.1
  c ← first_of b.1
  d ← first_of c.1
  e ← first_of d.1
  f ← first_of e.1
  g ← first_of f.1
  received ← long_of a.0
  unused ← long_of c.0
  spent ← long_of e.0
  burnt ← long_of g.0
  Some (items.Counted lane (record { received = received; unused = unused; spent = spent; burnt = burnt }))

-- `ledger LINK WAY received R unused U spent S burnt B` or `ledger LINK WAY REFUSAL`
unfoldable pub ledger_at : Lane → List Word → Option Item
ledger_at lane ws = do
  w ← first_of ws
  if bytes_eq w.0 (codes "received") then counted_at lane w.1
      else (refusal_at ws >>= λ refusal. Some (items.NotCounted lane refusal))

-- ---- keys, and requests of applications and operators

-- `made COUNT FIRSTNAME`
unfoldable pub made_at : List Word → Option Item
made_at ws = do
  w ← two_of ws
  count ← short_of w.0
  first ← name_of w.1
  Some (items.Made count first)

-- `NAME HEX NAME HEX ..`, added to the keys that were read so far
abbrev pub keys_after : List (Name × List ℕ) → List Word → Option (List (Name × List ℕ))
keys_after before [] = Some before
keys_after before (n ∷ []) = None
keys_after before (n ∷ h ∷ ws) = do
  name ← name_of n
  octets ← octets_of h
  keys_after (before ++ (name, octets) ∷ []) ws

-- `keys NAME HEX NAME HEX ..`
unfoldable pub keys_at : List Word → Option Item
keys_at ws = do
  keys ← keys_after [] ws
  Some (items.Keys keys)

-- `status READY`
unfoldable pub ready_at : List Word → Option Item
ready_at ws = do
  w ← one_of ws
  count ← number_of w
  Some (items.Ready count)

-- `http NAME STATUS BODY`. The body may have spaces.
unfoldable pub http_at : List (List ℕ) → List Word → Option Item
http_at nodes ws = do
  a ← first_of ws
  b ← first_of a.1
  node ← node_of nodes a.0
  status ← short_of b.0
  Some (items.Http node status (words b.1))

-- `OPEN_CONNECT STATUS` or `OPEN_CONNECT STATUS STREAM`
abbrev pub stream_at : List Word → Option (Option Name)
stream_at ws = if is_over ws then Some None else (one_of ws >>= λ w. name_of w >>= λ name. Some (Some name))

unfoldable pub connected_at : List Word → Option Item
connected_at ws = do
  w ← first_of ws
  status ← byte_of w.0
  stream ← stream_at w.1
  Some (items.Stream (answers.OpenConnect status stream))

-- `GET_KEY STATUS` or `GET_KEY STATUS INDEX HEX`
unfoldable pub chunk_of : List Word → Option Chunk
chunk_of ws = do
  w ← two_of ws
  index ← number_of w.0
  octets ← octets_of w.1
  Some (record { index = index; bytes = octets })

abbrev pub chunk_at : List Word → Option (Option Chunk)
chunk_at ws = if is_over ws then Some None else (chunk_of ws >>= λ chunk. Some (Some chunk))

unfoldable pub got_at : List Word → Option Item
got_at ws = do
  w ← first_of ws
  status ← byte_of w.0
  chunk ← chunk_at w.1
  Some (items.Stream (answers.GetKey status chunk))

-- `CLOSE STATUS`
unfoldable pub closed_at : List Word → Option Item
closed_at ws = do
  w ← one_of ws
  status ← byte_of w
  Some (items.Stream (answers.Close status))

-- `show NAME KEY absent` or `show NAME KEY STATE HEX`
abbrev pub held_bytes : Held → List Word → Option (List ℕ)
held_bytes states.Absent ws = Some []
held_bytes held ws = one_of ws >>= bytes_of

-- `show NAME KEY absent`, `show NAME KEY STATE HEX` or `show NAME KEY REFUSAL`
abbrev pub shown_or_not : (node : ℕ) → Name → (rest all : List Word) → Option Held → Option Item
shown_or_not node name rest all (Some held) = held_bytes held rest >>= λ bytes. Some (items.Shown node name held bytes)
shown_or_not node name rest all None = refusal_at all >>= λ refusal. Some (items.NotShown node name refusal)

unfoldable pub shown_at : (node : ℕ) → Name → List Word → Option Item
shown_at node name ws = do
  w ← first_of ws
  shown_or_not node name w.1 ws (state_of w.0)

unfoldable pub show_at : List (List ℕ) → List Word → Option Item
show_at nodes ws = do
  a ← first_of ws
  b ← first_of a.1
  node ← node_of nodes a.0
  name ← name_of b.0
  shown_at node name b.1

-- ---- all rows

-- the rows of a lane: `WORD LINK WAY ..`
unfoldable pub on_lane_at : Lane → Word → List Word → Option Item
on_lane_at lane word ws =
    if bytes_eq word (codes "short") then short_at lane ws
    else if bytes_eq word (codes "sent") then sent_at lane ws
    else if bytes_eq word (codes "unsent") then unsent_at lane ws
    else if bytes_eq word (codes "pass") then passed_at lane ws
    else if bytes_eq word (codes "flip") then flipped_at lane ws
    else if bytes_eq word (codes "forge") then forged_at lane ws
    else ledger_at lane ws

unfoldable pub lane_row_at : Word → List Word → Option Item
lane_row_at word ws = do
  a ← first_of ws
  b ← first_of a.1
  lane ← lane_of a.0 b.0
  on_lane_at lane word b.1

abbrev pub is_of_lane : Word → Bool
is_of_lane word =
    bytes_eq word (codes "short") || bytes_eq word (codes "sent") || bytes_eq word (codes "unsent") || bytes_eq word (codes "pass") || bytes_eq word (codes "flip") || bytes_eq word (codes "forge") || bytes_eq word (codes "ledger")

-- the rows of a start, or else a refusal that is the whole text
unfoldable pub start_row_at : Word → (rest all : List Word) → Option Item
start_row_at word rest all =
    if bytes_eq word (codes "started") then Some (items.Start starts.Started)
    else if bytes_eq word (codes "up") then Some (items.Start starts.WasUp)
    else if bytes_eq word (codes "foreign") then (one_of rest >>= λ w. long_of w >>= λ place. Some (items.Start (starts.Foreign place)))
    else (refusal_at all >>= λ refusal. Some (items.Refused refusal))

-- the rows without octets of keys or bodies
unfoldable pub plain_at : List (List ℕ) → Word → (rest all : List Word) → Option Item
plain_at nodes word rest all =
    if is_of_lane word then lane_row_at word rest
    else if bytes_eq word (codes "bits") then bits_at rest
    else if bytes_eq word (codes "made") then made_at rest
    else if bytes_eq word (codes "tick") then tick_at nodes rest
    else if bytes_eq word (codes "idle") then idle_at nodes rest
    else if bytes_eq word (codes "link") then link_set_at rest
    else if bytes_eq word (codes "status") then ready_at rest
    else if bytes_eq word (codes "OPEN_CONNECT") then connected_at rest
    else if bytes_eq word (codes "CLOSE") then closed_at rest
    else if bytes_eq word (codes "crashed") then Some items.Crashed
    else if bytes_eq word (codes "armed") then Some items.Armed
    else start_row_at word rest all

unfoldable pub item_at : List (List ℕ) → List Word → Option Item
item_at nodes ws = do
  w ← first_of ws
  if bytes_eq w.0 (codes "keys") then keys_at w.1
      else if bytes_eq w.0 (codes "http") then http_at nodes w.1
      else if bytes_eq w.0 (codes "GET_KEY") then got_at w.1
      else if bytes_eq w.0 (codes "show") then show_at nodes w.1
      else plain_at nodes w.0 w.1 ws

-- What a line tells: its number, and the item behind it. The last octet, which is LF in a report, is not looked at.
unfoldable pub line_at : List (List ℕ) → (line : List ℕ) → Option NumberedItem
line_at nodes line = do
  number ← number_of (take (len_to 32 line) line)
  item ← item_at nodes (words_in (without_end (drop (len_to 32 line) line)))
  Some (record { number = number; item = item })
