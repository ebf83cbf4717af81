-- The grammar of record bodies, and the one encoding that each has in each version. All numbers are big-endian.
use Rattle.std.specs.Prelude.{◌≡◌, ℕ, zero, suc, ◌+◌, ◌-◌, ◌*◌, ◌<◌, ◌≤◌, ◌^◌, ◌==◌, ◌&&◌, nat_lt, Bool, true, false, List, [], ◌∷◌, ◌++◌, length, map, drop, if◌then◌else◌}
use Rattle.std.specs.List.{All, flat_map}
use Rattle.std.specs.Int.{w64, to_be_bytes}
use Rattle.qkd_base.specs.Name.{Name, IsName, octets_of, kind_number}
use Rattle.qkd_base.specs.declared.lane.Way.{Way}
use Rattle.qkd_base.specs.declared.lane.Way.TheVariants.{Up, Down}
use Rattle.qkd_base.specs.declared.key_name.NameKind.TheVariants.{Stream as StreamKind}
use Rattle.net_model.specs.declared.fact.Fact.{Fact}
use Rattle.net_model.specs.declared.fact.Fact.TheVariants.{Key, Chunk, Stored, Open, Joined, Part}
use Rattle.net_model.specs.declared.record.Record.{Record}
use Rattle.net_model.specs.declared.record.Record.TheVariants.{Block, Lease, Learned, Acked, Handed, Closed, Bare}
use Rattle.net_model.specs.Formed.{IsBareFact}
use Rattle.net_model.specs.Table.{bytes_of}
use Rattle.frame_codec.specs.Payload.{IsNameOf, IsSae, IsFact, AreOctets, fields, short, long, spelled_route, fact_octets}
use Rattle.journal_records.specs.declared.version.Version.{Version}
use Rattle.journal_records.specs.declared.version.Version.TheVariants.{First, Second}

-- ---- which records have an encoding

abbrev pub IsRecord : Record → Type 0
IsRecord (Block link number bytes) = (link < 32) × (number < 2 ^ 32) × (length bytes ≡ 1024) × AreOctets bytes
IsRecord (Lease lane end) = (lane.link < 32) × (end < 2 ^ 64)
IsRecord (Learned f) = IsFact f
IsRecord (Acked n) = IsName n
IsRecord (Handed n sae) = IsName n × IsSae sae
IsRecord (Closed n sae) = IsNameOf StreamKind n × IsSae sae
IsRecord (Bare f) = IsFact f × IsBareFact f

abbrev pub IsLearned : Record → Type 0
IsLearned (Learned f) = Unit {0}
IsLearned (Block link number bytes) = ⊥
IsLearned (Lease lane end) = ⊥
IsLearned (Acked n) = ⊥
IsLearned (Handed n sae) = ⊥
IsLearned (Closed n sae) = ⊥
IsLearned (Bare f) = ⊥

-- ---- the encoding of a record

-- a name of 7 octets: 16 times its kind plus its node, and then its count
abbrev pub short_name : Name → List ℕ
short_name n = (16 * kind_number n.kind + n.node) ∷ drop 2 (to_be_bytes w64 n.count)

abbrev pub name_octets : Version → Name → List ℕ
name_octets First n = octets_of n
name_octets Second n = short_name n

-- how many octets a name has
abbrev pub name_size : Version → ℕ
name_size First = 16
name_size Second = 7

abbrev pub way_number : Way → ℕ
way_number Up = 0
way_number Down = 1

-- the encoding of a fact up to its bytes, which would be its last octets
abbrev pub bare_octets : Fact → List ℕ
bare_octets (Key name master slave route bytes) = 1 ∷ fields (octets_of name ∷ short master ∷ short slave ∷ short (length bytes) ∷ spelled_route route ∷ [])
bare_octets (Chunk name stream index route bytes) = 6 ∷ fields (octets_of name ∷ octets_of stream ∷ long index ∷ short (length bytes) ∷ spelled_route route ∷ [])
bare_octets (Part name key master slave route bytes) = 7 ∷ fields (octets_of name ∷ octets_of key ∷ short master ∷ short slave ∷ short (length bytes) ∷ spelled_route route ∷ [])
bare_octets (Stored note about route) = fact_octets (Stored note about route)
bare_octets (Open stream source peer size route) = fact_octets (Open stream source peer size route)
bare_octets (Joined note about route) = fact_octets (Joined note about route)

abbrev pub record_kind : Record → ℕ
record_kind (Block link number bytes) = 1
record_kind (Lease lane end) = 2
record_kind (Learned f) = 3
record_kind (Acked n) = 4
record_kind (Handed n sae) = 5
record_kind (Closed n sae) = 6
record_kind (Bare f) = 7

abbrev pub record_fields : Version → Record → List (List ℕ)
record_fields v (Block link number bytes) = (link ∷ []) ∷ long number ∷ bytes ∷ []
record_fields v (Lease lane end) = (lane.link ∷ []) ∷ (way_number lane.way ∷ []) ∷ to_be_bytes w64 end ∷ []
record_fields v (Learned f) = short (length (fact_octets f)) ∷ fact_octets f ∷ []
record_fields v (Acked n) = name_octets v n ∷ []
record_fields v (Handed n sae) = name_octets v n ∷ short sae ∷ []
record_fields v (Closed n sae) = name_octets v n ∷ short sae ∷ []
record_fields v (Bare f) = short (length (bytes_of f)) ∷ bare_octets f ∷ []

abbrev pub record_octets : Version → Record → List ℕ
record_octets v r = record_kind r ∷ fields (record_fields v r)

-- ---- spelled records: records alone, and runs

-- A spelled record: a record alone, or in version 2 a run of consecutive handings to one application.
pub data Item : Type 0 where
  One : (alone : Record) → Item
  Run : (sae : ℕ) (names : List Name) → Item

abbrev pub item_octets : Version → Item → List ℕ
item_octets v (One r) = record_octets v r
item_octets v (Run sae names) = 5 ∷ fields (short sae ∷ short (length names) ∷ flat_map short_name names ∷ [])

-- the records of a spelled record
abbrev pub records_in : Item → List Record
records_in (One r) = r ∷ []
records_in (Run sae names) = map (λ n. Handed n sae) names

-- A run of 1 to 127 names goes on with a handing to the same application.
abbrev pub goes_on : ℕ → ℕ → ℕ → Bool
goes_on sae names other = nat_lt 0 names && nat_lt names 128 && (other == sae)

-- the run so far as a spelled record, if it has names
abbrev pub closing : ℕ → List Name → List Item
closing sae [] = []
closing sae (n ∷ names) = Run sae (n ∷ names) ∷ []

-- the spelled records of these records, after a run so far
unfoldable pub grouped : ℕ → List Name → List Record → List Item
grouped sae names [] = closing sae names
grouped sae names (Handed n other ∷ rs) = if goes_on sae (length names) other then grouped sae (names ++ n ∷ []) rs else closing sae names ++ grouped other (n ∷ []) rs
grouped sae names (r ∷ rs) = closing sae names ++ One r ∷ grouped 0 [] rs

-- how many spelled records begin in these records, after a run so far
unfoldable pub begun : ℕ → ℕ → List Record → ℕ
begun sae names [] = 0
begun sae names (Handed n other ∷ rs) = if goes_on sae names other then begun sae (names + 1) rs else 1 + begun other 1 rs
begun sae names (r ∷ rs) = 1 + begun 0 0 rs

-- how many of the first records, up to `most`, are handings to this application before any other record
unfoldable pub run_len : ℕ → ℕ → List Record → ℕ
run_len sae zero rs = 0
run_len sae (suc most) [] = 0
run_len sae (suc most) (Handed n other ∷ rs) = if other == sae then 1 + run_len sae most rs else 0
run_len sae (suc most) (r ∷ rs) = 0

-- the head of a run
abbrev pub run_head : ℕ → ℕ → List ℕ
run_head sae names = 5 ∷ fields (short sae ∷ short names ∷ [])

-- how many names of the run are still to come, including this one
abbrev pub left_in : ℕ → ℕ → List Record → ℕ
left_in left sae rs = if left == 0 then run_len sae 128 rs else left

-- The octets of records in version 2, where the first `left` records belong to a run that has begun. The head of a run tells in
-- advance how many names the run has.
unfoldable pub octets_left : ℕ → List Record → List ℕ
octets_left left [] = []
octets_left left (Handed n sae ∷ rs) =
    (if left == 0 then run_head sae (run_len sae 128 (Handed n sae ∷ rs)) else []) ++ (short_name n ++ octets_left (left_in left sae (Handed n sae ∷ rs) - 1) rs)
octets_left left (r ∷ rs) = record_octets Second r ++ octets_left 0 rs

abbrev pub rest_octets : Version → ℕ → List Record → List ℕ
rest_octets First left rs = flat_map (record_octets First) rs
rest_octets Second left rs = octets_left left rs

abbrev pub items : Version → List Record → List Item
items First rs = map (λ r. One r) rs
items Second rs = grouped 0 [] rs

-- ---- bodies

-- a batch: 1 to 65,535 spelled records
pub record IsBatch (v : Version) (rs : List Record) : Type 0 where
  pub some : 1 ≤ length (items v rs)
  pub few : length (items v rs) ≤ 65535
  pub each : All IsRecord rs

-- the number of spelled records, and then these records
unfoldable pub body_octets : Version → List Record → List ℕ
body_octets v rs = short (length (items v rs)) ++ flat_map (item_octets v) (items v rs)

-- the version as the number that the model's lengths use
abbrev pub version_number : Version → ℕ
version_number First = 1
version_number Second = 2
