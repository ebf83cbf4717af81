-- Facts: their bytes and routes, their lengths, and when they are well formed.
use Rattle.std.specs.Prelude.{◌≡◌, ℕ, ◌+◌, ◌≤◌, length}
use Rattle.qkd_base.specs.declared.key_name.NameKind.TheVariants.{Key as KeyKind, Stream as StreamKind, Note as NoteKind}
use Rattle.net_model.specs.declared.fact.Fact.{Fact}
use Rattle.net_model.specs.declared.fact.Fact.TheVariants.{Key, Chunk, Stored, Open, Joined, Part}
use Rattle.net_model.specs.declared.payload.Payload.{Payload}
use Rattle.net_model.specs.declared.payload.Payload.TheVariants.{Data, Ack}

-- The number of octets of a fact as it is encoded: 1 for its kind, 16 for each name, 2 for each number (4 for an
-- index), 1 for the number of nodes of its route, 1 for each of these nodes, and its bytes.
abbrev pub fact_len : Fact → ℕ
fact_len (Key name master slave route bytes) = 24 + length route + length bytes
fact_len (Chunk name stream index route bytes) = 40 + length route + length bytes
fact_len (Stored note about route) = 34 + length route
fact_len (Open stream source peer size route) = 24 + length route
fact_len (Joined note about route) = 34 + length route
fact_len (Part name key master slave route bytes) = 40 + length route + length bytes

-- an acknowledgement is encoded as its kind and a name
abbrev pub payload_len : Payload → ℕ
payload_len (Data f) = fact_len f
payload_len (Ack n) = 17

-- a key, a chunk or a part has 8 to 512 octets
abbrev pub IsSize : ℕ → Type 0
IsSize size = (8 ≤ size) × (size ≤ 512)

-- the names of a fact have the right kinds, and its bytes the right sizes
abbrev pub IsWellFormedFact : Fact → Type 0
IsWellFormedFact (Key name master slave route bytes) = (name.kind ≡ KeyKind) × IsSize (length bytes)
IsWellFormedFact (Chunk name stream index route bytes) = (name.kind ≡ KeyKind) × (stream.kind ≡ StreamKind) × IsSize (length bytes)
IsWellFormedFact (Stored note about route) = (note.kind ≡ NoteKind) × (about.kind ≡ KeyKind)
IsWellFormedFact (Open stream source peer size route) = (stream.kind ≡ StreamKind) × IsSize size
IsWellFormedFact (Joined note about route) = (note.kind ≡ NoteKind) × (about.kind ≡ StreamKind)
IsWellFormedFact (Part name key master slave route bytes) = (name.kind ≡ KeyKind) × (key.kind ≡ KeyKind) × IsSize (length bytes)

abbrev pub IsWellFormed : Payload → Type 0
IsWellFormed (Data f) = IsWellFormedFact f
IsWellFormed (Ack n) = Unit {0}
