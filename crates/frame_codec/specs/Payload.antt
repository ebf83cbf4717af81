-- Payloads and their spelling. Each payload has exactly one, and all numbers are big-endian.
use Rattle.std.specs.Prelude.{◌≡◌, ℕ, ◌<◌, ◌^◌, true, List, [], ◌∷◌, ◌++◌, length, slice_index}
use Rattle.std.specs.Int.{w16, w32, to_be_bytes}
use Rattle.qkd_base.specs.Name.{Name, IsName, octets_of}
use Rattle.qkd_base.specs.Route.{is_route, are_nodes}
use Rattle.qkd_base.specs.declared.key_name.NameKind.{NameKind}
use Rattle.qkd_base.specs.declared.key_name.NameKind.TheVariants.{Key as KeyKind, Stream as StreamKind, Note as NoteKind}
use Rattle.net_model.specs.declared.fact.Fact.{Fact}
use Rattle.net_model.specs.declared.fact.Fact.TheVariants.{Key, Chunk, Stored, Open, Joined, Part}
use Rattle.net_model.specs.declared.payload.Payload.{Payload}
use Rattle.net_model.specs.declared.payload.Payload.TheVariants.{Data, Ack}
use Rattle.net_model.specs.Facts.{IsSize}

-- ---- which payloads have a spelling

-- a name of this kind
abbrev pub IsNameOf : NameKind → Name → Type 0
IsNameOf kind n = IsName n × (n.kind ≡ kind)

abbrev pub IsSae : ℕ → Type 0
IsSae n = n < 256

-- A route has 2 to 9 different nodes.
abbrev pub AreRouteNodes : List ℕ → Type 0
AreRouteNodes nodes = (is_route nodes ≡ true) × (are_nodes nodes ≡ true)

abbrev pub AreOctets : List ℕ → Type 0
AreOctets octets = (i : ℕ) → slice_index octets i < 256

-- the octets of a key, of a chunk or of a part of a group key: 8 to 512
abbrev pub IsSecret : List ℕ → Type 0
IsSecret octets = IsSize (length octets) × AreOctets octets

abbrev pub IsFact : Fact → Type 0
IsFact (Key name master slave route bytes) = IsNameOf KeyKind name × IsSae master × IsSae slave × AreRouteNodes route × IsSecret bytes
IsFact (Stored note about route) = IsNameOf NoteKind note × IsNameOf KeyKind about × AreRouteNodes route
IsFact (Open stream source peer size route) = IsNameOf StreamKind stream × IsSae source × IsSae peer × IsSize size × AreRouteNodes route
IsFact (Joined note about route) = IsNameOf NoteKind note × IsNameOf StreamKind about × AreRouteNodes route
IsFact (Chunk name stream index route bytes) = IsNameOf KeyKind name × IsNameOf StreamKind stream × (index < 2 ^ 32) × AreRouteNodes route × IsSecret bytes
IsFact (Part name key master slave route bytes) = IsNameOf KeyKind name × IsNameOf KeyKind key × IsSae master × IsSae slave × AreRouteNodes route × IsSecret bytes

abbrev pub IsPayload : Payload → Type 0
IsPayload (Data fact) = IsFact fact
IsPayload (Ack name) = IsName name

-- ---- the spelling of a payload

-- fields in order
abbrev pub fields : List (List ℕ) → List ℕ
fields [] = []
fields (f ∷ []) = f
fields (f ∷ g ∷ fs) = f ++ fields (g ∷ fs)

abbrev pub short : ℕ → List ℕ
short n = to_be_bytes w16 n

abbrev pub long : ℕ → List ℕ
long n = to_be_bytes w32 n

-- a route: the number of its nodes, and an octet for each
abbrev pub spelled_route : List ℕ → List ℕ
spelled_route nodes = length nodes ∷ nodes

abbrev pub fact_octets : Fact → List ℕ
fact_octets (Key name master slave route bytes) = 1 ∷ fields (octets_of name ∷ short master ∷ short slave ∷ short (length bytes) ∷ spelled_route route ∷ bytes ∷ [])
fact_octets (Stored note about route) = 2 ∷ fields (octets_of note ∷ octets_of about ∷ spelled_route route ∷ [])
fact_octets (Open stream source peer size route) = 4 ∷ fields (octets_of stream ∷ short source ∷ short peer ∷ short size ∷ spelled_route route ∷ [])
fact_octets (Joined note about route) = 5 ∷ fields (octets_of note ∷ octets_of about ∷ spelled_route route ∷ [])
fact_octets (Chunk name stream index route bytes) = 6 ∷ fields (octets_of name ∷ octets_of stream ∷ long index ∷ short (length bytes) ∷ spelled_route route ∷ bytes ∷ [])
fact_octets (Part name key master slave route bytes) = 7 ∷ fields (octets_of name ∷ octets_of key ∷ short master ∷ short slave ∷ short (length bytes) ∷ spelled_route route ∷ bytes ∷ [])

unfoldable pub payload_octets : Payload → List ℕ
payload_octets (Data fact) = fact_octets fact
payload_octets (Ack name) = 3 ∷ octets_of name
