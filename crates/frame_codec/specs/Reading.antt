-- How a payload is read, field by field. A field that doesn't fit or is cut off is refused at its first octet. Octets behind the
-- last field are refused at the first of them. A refusal gives the number of octets from that place on.
use Rattle.std.specs.Prelude.{◌≡◌, ℕ, ◌+◌, ◌-◌, List, [], ◌∷◌, length, take, drop, Option, Some, None, Result, Ok, Err, IsOk, Bool, true, nat_lt, nat_le, ◌==◌, ◌&&◌, if◌then◌else◌}
use Rattle.std.specs.Int.{Width, w16, w32, from_be_bytes}
use Rattle.qkd_base.specs.Name.{Name, name_at, kind_eq}
use Rattle.qkd_base.specs.Route.{is_route, are_nodes}
use Rattle.qkd_base.specs.declared.key_name.NameKind.{NameKind}
use Rattle.qkd_base.specs.declared.key_name.NameKind.TheVariants.{Key as KeyKind, Stream as StreamKind, Note as NoteKind}
use Rattle.net_model.specs.declared.fact.Fact.{Fact}
use Rattle.net_model.specs.declared.fact.Fact.TheVariants.{Key, Chunk, Stored, Open, Joined, Part}
use Rattle.net_model.specs.declared.payload.Payload.{Payload}
use Rattle.net_model.specs.declared.payload.Payload.TheVariants.{Data, Ack}
use Rattle.frame_codec.specs.declared.fault.Fault.{Fault}
use Rattle.frame_codec.specs.declared.fault.Fault.TheVariants as faults
use Rattle.frame_codec.specs.declared.payload_refusal.PayloadRefusal.{PayloadRefusal}
use Rattle.frame_codec.specs.declared.payload_refusal.PayloadRefusal.TheVariants as refusals

infixl 10 ◌>>=◌
abbrev pub ◌>>=◌ : {A B : Type 0} → Result A ℕ → (A → Result B ℕ) → Result B ℕ
(Ok x) >>= f = f x
(Err e) >>= f = Err e

-- ---- fields: each reader gives a value, and the octets behind it

-- the value, if there is one that passes the test
abbrev pub passing : {A : Type 0} → (A → Bool) → ℕ → Option A → Result A ℕ
passing test left None = Err left
passing test left (Some a) = if test a then Ok a else Err left

abbrev pub before : {A : Type 0} → List ℕ → Result A ℕ → Result (A × List ℕ) ℕ
before rest read = read >>= λ a. Ok (a, rest)

-- the value of the first n octets, if it passes the test
abbrev pub prefix : {A : Type 0} → ℕ → (List ℕ → Option A) → (A → Bool) → List ℕ → Result (A × List ℕ) ℕ
prefix n value test octets = if nat_lt (length octets) n then Err (length octets) else before (drop n octets) (passing test (length octets) (value (take n octets)))

-- a name that passes a test
unfoldable pub named : (Name → Bool) → List ℕ → Result (Name × List ℕ) ℕ
named test octets = prefix 16 name_at test octets

abbrev pub of_kind : NameKind → Name → Bool
of_kind kind n = kind_eq n.kind kind

abbrev pub any_kind : Name → Bool
any_kind n = true

abbrev pub number_at : Width → List ℕ → Option ℕ
number_at w octets = Some (from_be_bytes w octets)

unfoldable pub sae : List ℕ → Result (ℕ × List ℕ) ℕ
sae octets = prefix 2 (number_at w16) (λ n. nat_lt n 256) octets

unfoldable pub size : List ℕ → Result (ℕ × List ℕ) ℕ
size octets = prefix 2 (number_at w16) (λ n. nat_le 8 n && nat_le n 512) octets

unfoldable pub index : List ℕ → Result (ℕ × List ℕ) ℕ
index octets = prefix 4 (number_at w32) (λ n. true) octets

-- a route: the number of its nodes, and an octet for each
unfoldable pub route : List ℕ → Result (List ℕ × List ℕ) ℕ
route [] = Err 0
route (n ∷ octets) = if nat_lt (length octets) n then Err (1 + length octets) else before (drop n octets) (passing (λ nodes. is_route nodes && are_nodes nodes) (1 + length octets) (Some (take n octets)))

-- the last field: n octets, and nothing behind them
unfoldable pub last : ℕ → List ℕ → Result (List ℕ) ℕ
last n octets = if nat_lt (length octets) n then Err (length octets) else if nat_lt n (length octets) then Err (length octets - n) else Ok octets

-- ---- facts, behind the octet of their kind

unfoldable pub key_of : List ℕ → Result Fact ℕ
key_of octets = do
  name ← named (of_kind KeyKind) octets
  master ← sae name.1
  slave ← sae master.1
  n ← size slave.1
  nodes ← route n.1
  bytes ← last n.0 nodes.1
  Ok (Key name.0 master.0 slave.0 nodes.0 bytes)

-- a note about a name of the given kind
unfoldable pub note_of : NameKind → List ℕ → Result (Name × Name × List ℕ) ℕ
note_of kind octets = do
  note ← named (of_kind NoteKind) octets
  about ← named (of_kind kind) note.1
  nodes ← route about.1
  end ← last 0 nodes.1
  Ok (note.0, about.0, nodes.0)

abbrev pub stored_of : List ℕ → Result Fact ℕ
stored_of octets = do
  n ← note_of KeyKind octets
  Ok (Stored n.0 n.1 n.2)

abbrev pub joined_of : List ℕ → Result Fact ℕ
joined_of octets = do
  n ← note_of StreamKind octets
  Ok (Joined n.0 n.1 n.2)

unfoldable pub open_of : List ℕ → Result Fact ℕ
open_of octets = do
  stream ← named (of_kind StreamKind) octets
  source ← sae stream.1
  peer ← sae source.1
  n ← size peer.1
  nodes ← route n.1
  end ← last 0 nodes.1
  Ok (Open stream.0 source.0 peer.0 n.0 nodes.0)

unfoldable pub chunk_of : List ℕ → Result Fact ℕ
chunk_of octets = do
  name ← named (of_kind KeyKind) octets
  stream ← named (of_kind StreamKind) name.1
  at ← index stream.1
  n ← size at.1
  nodes ← route n.1
  bytes ← last n.0 nodes.1
  Ok (Chunk name.0 stream.0 at.0 nodes.0 bytes)

unfoldable pub part_of : List ℕ → Result Fact ℕ
part_of octets = do
  name ← named (of_kind KeyKind) octets
  key ← named (of_kind KeyKind) name.1
  master ← sae key.1
  slave ← sae master.1
  n ← size slave.1
  nodes ← route n.1
  bytes ← last n.0 nodes.1
  Ok (Part name.0 key.0 master.0 slave.0 nodes.0 bytes)

unfoldable pub ack_of : List ℕ → Result Name ℕ
ack_of octets = do
  name ← named any_kind octets
  end ← last 0 name.1
  Ok name.0

-- ---- payloads

abbrev pub as_data : Result Fact ℕ → Result Payload ℕ
as_data read = do
  fact ← read
  Ok (Data fact)

abbrev pub acked : Result Name ℕ → Result Payload ℕ
acked read = do
  name ← read
  Ok (Ack name)

-- the payload behind the octet of its kind. `left` octets are left from that octet on.
abbrev pub of_kind_octet : ℕ → ℕ → List ℕ → Result Payload ℕ
of_kind_octet kind left octets =
    if kind == 1 then as_data (key_of octets) else
    if kind == 2 then as_data (stored_of octets) else
    if kind == 3 then acked (ack_of octets) else
    if kind == 4 then as_data (open_of octets) else
    if kind == 5 then as_data (joined_of octets) else
    if kind == 6 then as_data (chunk_of octets) else
    if kind == 7 then as_data (part_of octets) else Err left

unfoldable pub payload_left : List ℕ → Result Payload ℕ
payload_left [] = Err 0
payload_left (kind ∷ octets) = of_kind_octet kind (1 + length octets) octets

-- the same result, but a refusal gives its place and not the number of octets left
abbrev pub place_in : {A : Type 0} → ℕ → Result A ℕ → Result A ℕ
place_in total (Ok x) = Ok x
place_in total (Err left) = Err (total - left)

-- the payload, or the place at which the octets are refused
unfoldable pub payload_of : List ℕ → Result Payload ℕ
payload_of octets = place_in (length octets) (payload_left octets)

-- ---- results of calls

-- The error of a field's reader is that of the definition. Such a reader never runs out of memory.
abbrev pub Misses : {Y : Type 0} → Fault → Result Y ℕ → Type 0
Misses faults.Memory read = ⊥
Misses (faults.Left n) read = read ≡ Err n

abbrev pub Finds : {X Y : Type 0} → (X → Y) → Result X Fault → Result Y ℕ → Type 0
Finds view (Ok x) read = read ≡ Ok (view x)
Finds view (Err e) read = Misses e read

-- The error of a payload's reader is that of the definition; or memory ran out, and then the octets are a payload.

abbrev pub Fails : {Y : Type 0} → Fault → Result Y ℕ → Type 0
Fails faults.Memory read = IsOk read
Fails (faults.Left n) read = read ≡ Err n

abbrev pub Gives : {X Y : Type 0} → (X → Y) → Result X Fault → Result Y ℕ → Type 0
Gives view (Ok x) read = read ≡ Ok (view x)
Gives view (Err e) read = Fails e read

abbrev pub Reads : Result Payload PayloadRefusal → Result Payload ℕ → Type 0
Reads (Ok payload) read = read ≡ Ok payload
Reads (Err (refusals.NotAPayload place)) read = read ≡ Err place
Reads (Err refusals.Memory) read = IsOk read
