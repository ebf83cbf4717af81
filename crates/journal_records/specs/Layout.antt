-- Decoding of record bodies. A field that doesn't fit or is cut off is refused at its first octet. Octets after the last record
-- are refused at the first of them. A refusal tells how many octets are left at that place.
use Rattle.std.specs.Prelude.{◌≡◌, ℕ, zero, suc, ◌+◌, ◌-◌, ◌/◌, ◌%◌, List, [], ◌∷◌, ◌++◌, length, take, drop, replicate, slice_index, Option, Some, None, Result, Ok, Err, Bool, true, false, nat_lt, nat_le, ◌==◌, ◌&&◌, if◌then◌else◌}
use Rattle.std.specs.Int.{w16, w64, from_be_bytes}
use Rattle.qkd_base.specs.Name.{Name, kind_of_octet}
use Rattle.qkd_base.specs.declared.lane.Way.{Way}
use Rattle.qkd_base.specs.declared.lane.Way.TheVariants.{Up, Down}
use Rattle.qkd_base.specs.declared.key_name.NameKind.TheVariants.{Key as KeyKind, Stream as StreamKind}
use Rattle.net_model.specs.declared.fact.Fact.{Fact}
use Rattle.net_model.specs.declared.fact.Fact.TheVariants.{Key, Chunk, Part}
use Rattle.net_model.specs.declared.payload.Payload.{Payload}
use Rattle.net_model.specs.declared.payload.Payload.TheVariants.{Data, Ack}
use Rattle.net_model.specs.declared.record.Record.{Record}
use Rattle.net_model.specs.declared.record.Record.TheVariants.{Block, Lease, Learned, Acked, Handed, Closed, Bare}
use Rattle.frame_codec.specs.Reading.{◌>>=◌, prefix, named, of_kind, any_kind, number_at, sae, size, index, route, last, payload_of, place_in}
use Rattle.journal_records.specs.declared.version.Version.{Version}
use Rattle.journal_records.specs.declared.version.Version.TheVariants.{First, Second}

-- ---- fields: a value, and the octets after it

abbrev pub octet_at : List ℕ → Option ℕ
octet_at octets = Some (slice_index octets 0)

unfoldable pub octet : List ℕ → Result (ℕ × List ℕ) ℕ
octet octets = prefix 1 octet_at (λ n. true) octets

unfoldable pub link_no : List ℕ → Result (ℕ × List ℕ) ℕ
link_no octets = prefix 1 octet_at (λ n. nat_lt n 32) octets

abbrev pub way_at : List ℕ → Option Way
way_at octets = if slice_index octets 0 == 0 then Some Up else if slice_index octets 0 == 1 then Some Down else None

unfoldable pub direction : List ℕ → Result (Way × List ℕ) ℕ
direction octets = prefix 1 way_at (λ w. true) octets

unfoldable pub lane_end : List ℕ → Result (ℕ × List ℕ) ℕ
lane_end octets = prefix 8 (number_at w64) (λ n. true) octets

-- a number of two octets in a range
unfoldable pub within : ℕ → ℕ → List ℕ → Result (ℕ × List ℕ) ℕ
within least most octets = prefix 2 (number_at w16) (λ n. nat_le least n && nat_le n most) octets

abbrev pub as_they_are : List ℕ → Option (List ℕ)
as_they_are octets = Some octets

-- the next n octets
unfoldable pub plain : ℕ → List ℕ → Result (List ℕ × List ℕ) ℕ
plain n octets = prefix n as_they_are (λ os. true) octets

abbrev pub count_in : List ℕ → ℕ
count_in octets = from_be_bytes w64 (replicate 2 0 ++ drop 1 octets)

abbrev pub short_name_at : List ℕ → Option Name
short_name_at octets =
    if nat_lt (slice_index octets 0) 48 && nat_le 1 (count_in octets)
    then Some (record { node = slice_index octets 0 % 16; kind = kind_of_octet (slice_index octets 0 / 16); count = count_in octets }) else None

unfoldable pub short_named : (Name → Bool) → List ℕ → Result (Name × List ℕ) ℕ
short_named test octets = prefix 7 short_name_at test octets

-- a name in the version's spelling
abbrev pub name_in : Version → (Name → Bool) → List ℕ → Result (Name × List ℕ) ℕ
name_in First test octets = named test octets
name_in Second test octets = short_named test octets

-- ---- facts

-- A payload of n octets that tells a fact. An acknowledgement, which is of kind 3, is refused.
abbrev pub fact_in : ℕ → List ℕ → Result Payload ℕ → Result (Fact × List ℕ) ℕ
fact_in n octets (Ok (Data f)) = Ok (f, drop n octets)
fact_in n octets (Ok (Ack name)) = Err (length octets)
fact_in n octets (Err place) = Err (length octets - place)

unfoldable pub whole_fact : ℕ → List ℕ → Result (Fact × List ℕ) ℕ
whole_fact n octets =
    if nat_lt (length octets) n then Err (length octets) else if slice_index octets 0 == 3 then Err (length octets) else fact_in n octets (payload_of (take n octets))

-- facts without their n bytes, after the octet of their kind

unfoldable pub bare_key : ℕ → List ℕ → Result (Fact × List ℕ) ℕ
bare_key n octets = do
  name ← named (of_kind KeyKind) octets
  master ← sae name.1
  slave ← sae master.1
  same ← within n n slave.1
  nodes ← route same.1
  Ok (Key name.0 master.0 slave.0 nodes.0 (replicate n 0), nodes.1)

unfoldable pub bare_chunk : ℕ → List ℕ → Result (Fact × List ℕ) ℕ
bare_chunk n octets = do
  name ← named (of_kind KeyKind) octets
  stream ← named (of_kind StreamKind) name.1
  at ← index stream.1
  same ← within n n at.1
  nodes ← route same.1
  Ok (Chunk name.0 stream.0 at.0 nodes.0 (replicate n 0), nodes.1)

unfoldable pub bare_part : ℕ → List ℕ → Result (Fact × List ℕ) ℕ
bare_part n octets = do
  name ← named (of_kind KeyKind) octets
  key ← named (of_kind KeyKind) name.1
  master ← sae key.1
  slave ← sae master.1
  same ← within n n slave.1
  nodes ← route same.1
  Ok (Part name.0 key.0 master.0 slave.0 nodes.0 (replicate n 0), nodes.1)

abbrev pub bare_of_kind : ℕ → ℕ → ℕ → List ℕ → Result (Fact × List ℕ) ℕ
bare_of_kind n left kind octets =
    if kind == 1 then bare_key n octets else if kind == 6 then bare_chunk n octets else if kind == 7 then bare_part n octets else Err left

unfoldable pub bare_fact : ℕ → List ℕ → Result (Fact × List ℕ) ℕ
bare_fact n octets = do
  kind ← octet octets
  bare_of_kind n (length octets) kind.0 kind.1

-- ---- records, after the octet of their kind

unfoldable pub block : List ℕ → Result (Record × List ℕ) ℕ
block octets = do
  link ← link_no octets
  number ← index link.1
  bytes ← plain 1024 number.1
  Ok (Block link.0 number.0 bytes.0, bytes.1)

unfoldable pub lease : List ℕ → Result (Record × List ℕ) ℕ
lease octets = do
  link ← link_no octets
  way ← direction link.1
  end ← lane_end way.1
  Ok (Lease (record { link = link.0; way = way.0 }) end.0, end.1)

unfoldable pub learned : List ℕ → Result (Record × List ℕ) ℕ
learned octets = do
  n ← within 0 65535 octets
  f ← whole_fact n.0 n.1
  Ok (Learned f.0, f.1)

unfoldable pub acked : Version → List ℕ → Result (Record × List ℕ) ℕ
acked v octets = do
  name ← name_in v any_kind octets
  Ok (Acked name.0, name.1)

unfoldable pub handed : Version → List ℕ → Result (Record × List ℕ) ℕ
handed v octets = do
  name ← name_in v any_kind octets
  to ← sae name.1
  Ok (Handed name.0 to.0, to.1)

unfoldable pub closed : Version → List ℕ → Result (Record × List ℕ) ℕ
closed v octets = do
  stream ← name_in v (of_kind StreamKind) octets
  by ← sae stream.1
  Ok (Closed stream.0 by.0, by.1)

unfoldable pub bare : List ℕ → Result (Record × List ℕ) ℕ
bare octets = do
  n ← size octets
  f ← bare_fact n.0 n.1
  Ok (Bare f.0, f.1)

-- a record by its kind; at the octet of the kind, `left` octets were left
abbrev pub one_of : Version → ℕ → ℕ → List ℕ → Result (Record × List ℕ) ℕ
one_of v left kind octets =
    if kind == 1 then block octets else if kind == 2 then lease octets else if kind == 3 then learned octets else
    if kind == 4 then acked v octets else if kind == 5 then handed v octets else if kind == 6 then closed v octets else
    if kind == 7 then bare octets else Err left

-- ---- spelled records: records alone, and runs

-- In version 2, a run to the application of the run just before is refused, unless that run has 128 names.
abbrev pub is_shut : Option ℕ → ℕ → Bool
is_shut None to = false
is_shut (Some other) to = other == to

abbrev pub shut_after : ℕ → ℕ → Option ℕ
shut_after to names = if nat_lt names 128 then Some to else None

-- n handings to one application, appended to the records so far
unfoldable pub handings : ℕ → ℕ → List Record → List ℕ → Result (List Record × List ℕ) ℕ
handings to zero rs octets = Ok (rs, octets)
handings to (suc n) rs octets = short_named any_kind octets >>= λ name. handings to n (rs ++ Handed name.0 to ∷ []) name.1

-- a run; at the octet of its kind, `left` octets were left
unfoldable pub run_of : ℕ → Option ℕ → List Record → List ℕ → Result ((Option ℕ × List Record) × List ℕ) ℕ
run_of left shut rs octets = do
  to ← sae octets
  n ← (if is_shut shut to.0 then Err left else within 1 128 to.1)
  more ← handings to.0 n.0 rs n.1
  Ok ((shut_after to.0 n.0, more.0), more.1)

abbrev pub is_run : Version → ℕ → Bool
is_run First kind = false
is_run Second kind = kind == 5

abbrev pub alone : List Record → Result (Record × List ℕ) ℕ → Result ((Option ℕ × List Record) × List ℕ) ℕ
alone rs read = read >>= λ r. Ok ((None, rs ++ r.0 ∷ []), r.1)

-- one spelled record, appended to the records so far
unfoldable pub item : Version → Option ℕ → List Record → List ℕ → Result ((Option ℕ × List Record) × List ℕ) ℕ
item v shut rs octets = do
  kind ← octet octets
  if is_run v kind.0 then run_of (length octets) shut rs kind.1 else alone rs (one_of v (length octets) kind.0 kind.1)

unfoldable pub many : Version → ℕ → Option ℕ → List Record → List ℕ → Result (List Record × List ℕ) ℕ
many v zero shut rs octets = Ok (rs, octets)
many v (suc n) shut rs octets = item v shut rs octets >>= λ x. many v n x.0.0 x.0.1 x.1

-- ---- bodies

unfoldable pub records_left : Version → List ℕ → Result (List Record) ℕ
records_left v octets = do
  n ← within 1 65535 octets
  rs ← many v n.0 None [] n.1
  end ← last 0 rs.1
  Ok rs.0

-- the records, or the place at which the octets are refused
unfoldable pub batch_of : Version → List ℕ → Result (List Record) ℕ
batch_of v octets = place_in (length octets) (records_left v octets)
