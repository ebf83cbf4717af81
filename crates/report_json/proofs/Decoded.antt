-- An item is read back from its object.
use Rattle.std.proofs.Common.{◌≡◌, ℕ, Bool, true, false, if◌then◌else◌, List, [], ◌∷◌, map, is_some, Option, Some, None, option_map, option_and_then, refl, sym, ap, ◌∙◌}
use Rattle.std.specs.Str.{bytes_eq, is_utf8}
use lib.Chars.{codes}
use Rattle.serde_json.specs.Data.{Data, Items, no_items, item}
use Rattle.serde_json.specs.Find.{get, as_str, as_number, as_u64, as_array}
use Rattle.serde_json.specs.View.{items_of}
use Rattle.qkd_base.specs.Name.{Name}
use Rattle.qkd_base.specs.declared.lane.Way.{Way}
use Rattle.qkd_base.specs.declared.lane.Way.TheVariants.{Up, Down}
use Rattle.qkd_base.specs.declared.lane.Lane.{Lane}
use Rattle.net_model.specs.declared.held.Held.{Held}
use Rattle.net_model.specs.declared.held.Held.TheVariants as states
use Rattle.scenario_text.specs.Words.{◌>>=◌, Word}
use Rattle.scenario_text.specs.Fields.{way_of, name_of}
use Rattle.scenario_format.proofs.Names.{name_is}
use Rattle.run_types.specs.declared.refusal.Refusal.{Refusal}
use Rattle.run_types.specs.declared.refusal.Refusal.TheVariants as refusals
use Rattle.run_types.specs.declared.frame_result.FrameResult.{FrameResult}
use Rattle.run_types.specs.declared.frame_result.FrameResult.TheVariants as results
use Rattle.run_types.specs.declared.start_result.StartResult.TheVariants as starts
use Rattle.run_types.specs.declared.stream_answer.Chunk.{Chunk}
use Rattle.run_types.specs.declared.stream_answer.StreamAnswer.TheVariants as answers
use Rattle.run_types.specs.declared.item.Item.{Item}
use Rattle.run_types.specs.declared.item.Item.TheVariants as items
use Rattle.run_types.specs.declared.item.NumberedItem.{NumberedItem}
use Rattle.run_types.specs.Words.{way_text}
use Rattle.report_grammar.specs.Fields.{node_of, end_of, up_of, kind_of, state_of, cause_of, octets_of, tag_of}
use Rattle.report_grammar.specs.Tellable.{HasName, CanRefuse, CanTell, CanItem, AreKeys}
use Rattle.report_grammar.proofs.FieldLaws.{node_is, end_is, kind_is, cause_is, octets_are, tag_is}
use Rattle.report_json.specs.Words.{refusal_word, refusal_numbers}
use Rattle.report_json.specs.Objects.{key_object, item_fields, object_of}
use Rattle.report_json.specs.Laws.{HasOctets, ObjectsTell}

-- ---- members

abbrev text_at : Word → Data → Option Word
text_at name d = option_and_then as_str (get name d)

abbrev count_at : Word → Data → Option ℕ
count_at name d = option_and_then as_u64 (option_and_then as_number (get name d))

abbrev items_at : Word → Data → Option Items
items_at name d = option_and_then as_array (get name d)

abbrev has : Word → Data → Bool
has name d = is_some (get name d)

abbrev node_in : List (List ℕ) → Data → Option ℕ
node_in nodes d = option_and_then (node_of nodes) (text_at (codes "node") d)

abbrev name_in : Data → Option Name
name_in d = option_and_then name_of (text_at (codes "name") d)

abbrev bytes_in : Data → Option (List ℕ)
bytes_in d = option_and_then octets_of (text_at (codes "bytes") d)

abbrev lane_in : Data → Option Lane
lane_in d = do
  link ← count_at (codes "link") d
  way ← option_and_then way_of (text_at (codes "way") d)
  Some (record { link = link; way = way })

way_back : (w : Way) → way_of (way_text w) ≡ Some w
way_back Up = refl
way_back Down = refl

-- ---- refusals

abbrev one : Items → Option ℕ
one no_items = None
one (item d ds) = option_and_then as_u64 (as_number d)

abbrev second : Items → Option ℕ
second no_items = None
second (item d ds) = one ds

abbrev tag_in : Data → Option ℕ
tag_in d = option_and_then tag_of (as_str d)

abbrev tags : Items → Option Refusal
tags no_items = None
tags (item d no_items) = None
tags (item d (item e ds)) = do
  given ← tag_in d
  computed ← tag_in e
  Some (refusals.BadTag given computed)

abbrev no_bits : Items → Option Refusal
no_bits no_items = Some refusals.NoBlock
no_bits (item d ds) = option_map refusals.NoBits (option_and_then as_u64 (as_number d))

abbrev two : (ℕ → ℕ → Refusal) → Items → Option Refusal
two of numbers = do
  first ← one numbers
  other ← second numbers
  Some (of first other)

unfoldable refusal_of : Word → Items → Option Refusal
refusal_of word numbers =
    if bytes_eq word (codes "down") then Some refusals.Down
    else if bytes_eq word (codes "stopped") then Some refusals.Stopped
    else if bytes_eq word (codes "memory") then Some refusals.Memory
    else if bytes_eq word (codes "link-full") then Some refusals.LinkFull
    else if bytes_eq word (codes "no-bits") then no_bits numbers
    else if bytes_eq word (codes "device-fault") then Some refusals.DeviceFault
    else if bytes_eq word (codes "not-allowed") then Some refusals.NotAllowed
    else if bytes_eq word (codes "no-route") then Some refusals.NoRoute
    else if bytes_eq word (codes "pool-full") then Some refusals.PoolFull
    else if bytes_eq word (codes "unknown-stream") then Some refusals.UnknownStream
    else if bytes_eq word (codes "journal-full") then two refusals.JournalFull numbers
    else if bytes_eq word (codes "no-random") then Some refusals.NoRandom
    else if bytes_eq word (codes "no-frame") then option_map refusals.NoFrame (one numbers)
    else if bytes_eq word (codes "no-bit") then option_map refusals.NoBit (one numbers)
    else if bytes_eq word (codes "bad-frame") then option_map refusals.BadFrame (one numbers)
    else if bytes_eq word (codes "wrong-lane") then two refusals.WrongLane numbers
    else if bytes_eq word (codes "bad-tag") then tags numbers
    else if bytes_eq word (codes "few") then option_map refusals.Few (one numbers)
    else if bytes_eq word (codes "unknown") then option_map refusals.Unknown (one numbers)
    else if bytes_eq word (codes "repeated") then option_map refusals.Repeated (one numbers)
    else if bytes_eq word (codes "handed") then option_map refusals.Handed (one numbers)
    else None

refusal_back : (r : Refusal) → CanRefuse r → refusal_of (refusal_word r) (items_of (refusal_numbers r)) ≡ Some r
unfolding refusal_of refusal_word refusal_numbers
refusal_back refusals.Down h = refl
refusal_back refusals.Stopped h = refl
refusal_back refusals.Memory h = refl
refusal_back refusals.LinkFull h = refl
refusal_back refusals.NoBlock h = refl
refusal_back refusals.DeviceFault h = refl
refusal_back refusals.NotAllowed h = refl
refusal_back refusals.NoRoute h = refl
refusal_back refusals.PoolFull h = refl
refusal_back refusals.UnknownStream h = refl
refusal_back (refusals.JournalFull length need) h = refl
refusal_back refusals.NoRandom h = refl
refusal_back (refusals.NoFrame count) h = refl
refusal_back (refusals.NoBit bits) h = refl
refusal_back (refusals.BadFrame place) h = refl
refusal_back (refusals.WrongLane link way) h = refl
refusal_back (refusals.NoBits have) h = refl
refusal_back (refusals.BadTag given computed) h = rw (tag_is given h.0, tag_is computed h.1) refl
refusal_back (refusals.Few count) h = refl
refusal_back (refusals.Unknown place) h = refl
refusal_back (refusals.Repeated place) h = refl
refusal_back (refusals.Handed place) h = refl

abbrev refusal_in : Data → Option Refusal
refusal_in d = do
  word ← text_at (codes "refusal") d
  numbers ← items_at (codes "numbers") d
  refusal_of word numbers

abbrev heard_in : Data → Option FrameResult
heard_in d = do
  word ← text_at (codes "result") d
  kind ← option_and_then kind_of (text_at (codes "fact") d)
  name ← name_in d
  Some (if bytes_eq word (codes "taken") then results.Taken kind name else results.Again kind name)

abbrev result_in : Data → Option FrameResult
result_in d = if has (codes "result") d then heard_in d else option_map results.Refused (refusal_in d)

-- ---- items, by their kind

unfoldable bits_in : Data → Option Item
bits_in d = do
  link ← count_at (codes "link") d
  end ← option_and_then end_of (text_at (codes "end") d)
  if has (codes "refusal") d then option_map (items.TookNone link end) (refusal_in d) else option_map (items.Took link end) (count_at (codes "number") d)

unfoldable made_in : Data → Option Item
made_in d = do
  count ← count_at (codes "count") d
  first ← name_in d
  Some (items.Made count first)

unfoldable tick_in : List (List ℕ) → Data → Option Item
tick_in nodes d = do
  v ← node_in nodes d
  if has (codes "refusal") d then option_map (items.NotTicked v) (refusal_in d) else (count_at (codes "new") d >>= λ fresh. option_map (items.Ticked v fresh) (count_at (codes "again") d))

unfoldable short_in : Data → Option Item
short_in d = do
  l ← lane_in d
  used ← count_at (codes "used") d
  need ← count_at (codes "need") d
  received ← count_at (codes "received") d
  Some (items.Short l used need received)

unfoldable sent_in : Data → Option Item
sent_in d = do
  l ← lane_in d
  number ← count_at (codes "number") d
  offset ← count_at (codes "offset") d
  length ← count_at (codes "length") d
  Some (items.Sent l number offset length)

unfoldable unsent_in : Data → Option Item
unsent_in d = do
  l ← lane_in d
  offset ← count_at (codes "offset") d
  cause ← option_and_then cause_of (text_at (codes "cause") d)
  Some (items.Unsent l offset cause)

unfoldable pass_in : Data → Option Item
pass_in d = do
  l ← lane_in d
  number ← count_at (codes "number") d
  option_map (items.Passed l number) (result_in d)

unfoldable flip_in : Data → Option Item
flip_in d = do
  l ← lane_in d
  number ← count_at (codes "number") d
  bit ← count_at (codes "bit") d
  option_map (items.Flipped l number bit) (result_in d)

unfoldable forge_in : Data → Option Item
forge_in d = do
  l ← lane_in d
  option_map (items.Forged l) (result_in d)

unfoldable link_in : Data → Option Item
link_in d = do
  link ← count_at (codes "link") d
  up ← option_and_then up_of (text_at (codes "state") d)
  Some (items.LinkSet link up)

abbrev keys_in : Items → Option (List (Name × List ℕ))
keys_in no_items = Some []
keys_in (item d ds) = do
  name ← name_in d
  bytes ← bytes_in d
  rest ← keys_in ds
  Some ((name, bytes) ∷ rest)

keys_back : (keys : List (Name × List ℕ)) → AreKeys keys → keys_in (items_of (map key_object keys)) ≡ Some keys
keys_back [] h = refl
keys_back (k ∷ keys) h = rw (name_is k.0 h.0, octets_are k.1 h.1, keys_back keys h.2) refl

abbrev body_in : Data → Option (List ℕ)
body_in d = if has (codes "body") d then text_at (codes "body") d else option_and_then octets_of (text_at (codes "octets") d)

unfoldable http_in : List (List ℕ) → Data → Option Item
http_in nodes d = do
  v ← node_in nodes d
  status ← count_at (codes "status") d
  body ← body_in d
  Some (items.Http v status body)

unfoldable opened_in : Data → Option Item
opened_in d = do
  status ← count_at (codes "status") d
  if has (codes "name") d then option_map (λ name. items.Stream (answers.OpenConnect status (Some name))) (name_in d) else Some (items.Stream (answers.OpenConnect status None))

abbrev chunk_in : Data → Option Chunk
chunk_in d = do
  index ← count_at (codes "index") d
  bytes ← bytes_in d
  Some (record { index = index; bytes = bytes })

unfoldable got_in : Data → Option Item
got_in d = do
  status ← count_at (codes "status") d
  if has (codes "index") d then option_map (λ chunk. items.Stream (answers.GetKey status (Some chunk))) (chunk_in d) else Some (items.Stream (answers.GetKey status None))

abbrev held_in : ℕ → Name → Held → Data → Option Item
held_in v n states.Absent d = Some (items.Shown v n states.Absent [])
held_in v n held d = option_map (items.Shown v n held) (bytes_in d)

unfoldable show_in : List (List ℕ) → Data → Option Item
show_in nodes d = do
  v ← node_in nodes d
  n ← name_in d
  if has (codes "refusal") d then option_map (items.NotShown v n) (refusal_in d)
      else (option_and_then state_of (text_at (codes "state") d) >>= λ held. held_in v n held d)

unfoldable ledger_in : Data → Option Item
ledger_in d = do
  l ← lane_in d
  if has (codes "refusal") d then option_map (items.NotCounted l) (refusal_in d)
      else (count_at (codes "received") d >>= λ received. count_at (codes "unused") d >>= λ unused. count_at (codes "spent") d >>= λ spent. count_at (codes "burnt") d >>= λ burnt.
      Some (items.Counted l (record { received = received; unused = unused; spent = spent; burnt = burnt })))

unfoldable item_by : List (List ℕ) → Word → Data → Option Item
item_by nodes kind d =
    if bytes_eq kind (codes "refused") then option_map items.Refused (refusal_in d)
    else if bytes_eq kind (codes "bits") then bits_in d
    else if bytes_eq kind (codes "made") then made_in d
    else if bytes_eq kind (codes "tick") then tick_in nodes d
    else if bytes_eq kind (codes "idle") then option_map items.Idle (node_in nodes d)
    else if bytes_eq kind (codes "short") then short_in d
    else if bytes_eq kind (codes "sent") then sent_in d
    else if bytes_eq kind (codes "unsent") then unsent_in d
    else if bytes_eq kind (codes "pass") then pass_in d
    else if bytes_eq kind (codes "flip") then flip_in d
    else if bytes_eq kind (codes "forge") then forge_in d
    else if bytes_eq kind (codes "crashed") then Some items.Crashed
    else if bytes_eq kind (codes "started") then Some (items.Start starts.Started)
    else if bytes_eq kind (codes "up") then Some (items.Start starts.WasUp)
    else if bytes_eq kind (codes "stopped") then Some (items.Start starts.Stopped)
    else if bytes_eq kind (codes "foreign") then option_map (λ place. items.Start (starts.Foreign place)) (count_at (codes "place") d)
    else if bytes_eq kind (codes "memory") then Some (items.Start starts.Memory)
    else if bytes_eq kind (codes "armed") then Some items.Armed
    else if bytes_eq kind (codes "link") then link_in d
    else if bytes_eq kind (codes "keys") then option_map items.Keys (option_and_then keys_in (items_at (codes "keys") d))
    else if bytes_eq kind (codes "status") then option_map items.Ready (count_at (codes "count") d)
    else if bytes_eq kind (codes "http") then http_in nodes d
    else if bytes_eq kind (codes "OPEN_CONNECT") then opened_in d
    else if bytes_eq kind (codes "GET_KEY") then got_in d
    else if bytes_eq kind (codes "CLOSE") then option_map (λ status. items.Stream (answers.Close status)) (count_at (codes "status") d)
    else if bytes_eq kind (codes "show") then show_in nodes d
    else if bytes_eq kind (codes "ledger") then ledger_in d
    else None

abbrev told_in : List (List ℕ) → Data → Option NumberedItem
told_in nodes d = do
  number ← count_at (codes "line") d
  kind ← text_at (codes "kind") d
  found ← item_by nodes kind d
  Some (record { number = number; item = found })

-- ---- each item is read back

abbrev Back : List (List ℕ) → ℕ → ℕ → Item → Type 0
Back nodes round n i = told_in nodes (object_of nodes round (record { number = n; item = i })) ≡ Some (record { number = n; item = i })

http_back : (nodes : List (List ℕ)) (round n v status : ℕ) (body : List ℕ) (b : Bool) → is_utf8 body ≡ b → HasName nodes v → HasOctets (items.Http v status body) → Back nodes round n (items.Http v status body)
unfolding item_fields item_by http_in
http_back nodes round n v status body true e h o = rw (e, node_is nodes v h) refl
http_back nodes round n v status body false e h o = rw (e, node_is nodes v h, octets_are body o) refl

back : (nodes : List (List ℕ)) (round n : ℕ) (i : Item) → CanItem nodes i → HasOctets i → Back nodes round n i
unfolding item_fields item_by bits_in made_in tick_in short_in sent_in unsent_in pass_in flip_in forge_in link_in opened_in got_in show_in ledger_in
back nodes round n (items.Refused r) h o = rw (refusal_back r h) refl
back nodes round n (items.Took link end number) h o = rw (end_is end) refl
back nodes round n (items.TookNone link end r) h o = rw (end_is end, refusal_back r h.1) refl
back nodes round n (items.Made count first) h o = rw (name_is first h.1) refl
back nodes round n (items.Ticked v fresh again) h o = rw (node_is nodes v h.0) refl
back nodes round n (items.Idle v) h o = rw (node_is nodes v h) refl
back nodes round n (items.NotTicked v r) h o = rw (node_is nodes v h.0, refusal_back r h.1) refl
back nodes round n (items.Short l used need received) h o = rw (way_back l.way) refl
back nodes round n (items.Sent l number offset length) h o = rw (way_back l.way) refl
back nodes round n (items.Unsent l offset cause) h o = rw (way_back l.way, cause_is cause) refl
back nodes round n (items.Passed l number (results.Taken kind name)) h o = rw (way_back l.way, kind_is kind, name_is name h.2) refl
back nodes round n (items.Passed l number (results.Again kind name)) h o = rw (way_back l.way, kind_is kind, name_is name h.2) refl
back nodes round n (items.Passed l number (results.Refused r)) h o = rw (way_back l.way, refusal_back r h.2) refl
back nodes round n (items.Flipped l number bit (results.Taken kind name)) h o = rw (way_back l.way, kind_is kind, name_is name h.3) refl
back nodes round n (items.Flipped l number bit (results.Again kind name)) h o = rw (way_back l.way, kind_is kind, name_is name h.3) refl
back nodes round n (items.Flipped l number bit (results.Refused r)) h o = rw (way_back l.way, refusal_back r h.3) refl
back nodes round n (items.Forged l (results.Taken kind name)) h o = rw (way_back l.way, kind_is kind, name_is name h.1) refl
back nodes round n (items.Forged l (results.Again kind name)) h o = rw (way_back l.way, kind_is kind, name_is name h.1) refl
back nodes round n (items.Forged l (results.Refused r)) h o = rw (way_back l.way, refusal_back r h.1) refl
back nodes round n items.Crashed h o = refl
back nodes round n (items.Start starts.Started) h o = refl
back nodes round n (items.Start starts.WasUp) h o = refl
back nodes round n (items.Start starts.Stopped) h o = refl
back nodes round n (items.Start (starts.Foreign place)) h o = refl
back nodes round n (items.Start starts.Memory) h o = refl
back nodes round n items.Armed h o = refl
back nodes round n (items.LinkSet link true) h o = refl
back nodes round n (items.LinkSet link false) h o = refl
back nodes round n (items.Keys keys) h o = rw (keys_back keys h) refl
back nodes round n (items.Ready count) h o = refl
back nodes round n (items.Http v status body) h o = http_back nodes round n v status body (is_utf8 body) refl h.0 o
back nodes round n (items.Stream (answers.OpenConnect status None)) h o = refl
back nodes round n (items.Stream (answers.OpenConnect status (Some stream))) h o = rw (name_is stream h.1) refl
back nodes round n (items.Stream (answers.GetKey status None)) h o = refl
back nodes round n (items.Stream (answers.GetKey status (Some chunk))) h o = rw (octets_are chunk.bytes h.1.1) refl
back nodes round n (items.Stream (answers.Close status)) h o = refl
back nodes round n (items.Shown v name states.Absent bytes) h o = rw (node_is nodes v h.0, name_is name h.1, h.2) refl
back nodes round n (items.Shown v name states.Given bytes) h o = rw (node_is nodes v h.0, name_is name h.1, octets_are bytes h.2) refl
back nodes round n (items.Shown v name states.Ready bytes) h o = rw (node_is nodes v h.0, name_is name h.1, octets_are bytes h.2) refl
back nodes round n (items.Shown v name states.Made bytes) h o = rw (node_is nodes v h.0, name_is name h.1, octets_are bytes h.2) refl
back nodes round n (items.Shown v name states.Kept bytes) h o = rw (node_is nodes v h.0, name_is name h.1, octets_are bytes h.2) refl
back nodes round n (items.Shown v name states.Relayed bytes) h o = rw (node_is nodes v h.0, name_is name h.1, octets_are bytes h.2) refl
back nodes round n (items.NotShown v name r) h o = rw (node_is nodes v h.0, name_is name h.1, refusal_back r h.2) refl
back nodes round n (items.Counted l counts) h o = rw (way_back l.way) refl
back nodes round n (items.NotCounted l r) h o = rw (way_back l.way, refusal_back r h.1) refl

same : {A : Type 0} (a b : A) → Some a ≡ Some b → a ≡ b
same a b e = cc

pub objects_tell : ObjectsTell
objects_tell nodes round other a b can has_a can_b has_b e =
    same a b (sym (back nodes round a.number a.item can.1 has_a) ∙ ap (told_in nodes) e ∙ back nodes other b.number b.item can_b.1 has_b)
