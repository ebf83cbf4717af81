-- What the octets of a connection begin with: a request, or the cause why there is none (RFC 9112, sections 2 to 6). The
-- grammar of heads is that of the parser httparse.
use Rattle.std.specs.Prelude.{◌≡◌, ℕ, ◌≤◌, ◌<◌, ◌⊎◌, Bool, true, false, ◌||◌, ◌==◌, nat_le, nat_lt, if◌then◌else◌, List, [], ◌∷◌, ◌++◌, length, take, map, Option, Some, None, Result, Ok, Err, codes}
use Rattle.std.specs.Str.{bytes_eq}
use Rattle.httparse.specs.Grammar.{RequestHead, print_request, ReadsRequest, EndsInTarget}
use Rattle.httparse.specs.Spans.{name_and_value}
use Rattle.http_front.specs.Fields.{Pair, values_of, has_value, decimal_of}
use Rattle.http_front.specs.declared.refusal.FrontRefusal.{FrontRefusal}
use Rattle.http_front.specs.declared.refusal.FrontRefusal.TheVariants.{NoRequest, BadHead, TooManyHeaders, HeadTooLong, Chunked, NoLength, BadLength, BodyTooLong, EndOfInput, ReadFault, Memory}
use Rattle.http_front.specs.declared.request.HttpRequest.{HttpRequest}

-- ---- heads

-- The octets begin with this head, and `rest` follows. The head has at most 32 fields and 8,192 octets.
pub record HasHead (octets : List ℕ) (head : RequestHead) (rest : List ℕ) : Type 0 where
  pub reads : ReadsRequest octets head rest
  pub few : length head.fields ≤ 32
  pub short : length (print_request head) ≤ 8192

-- The octets don't begin with a head.
abbrev pub HasNoHead : List ℕ → Type 0
HasNoHead octets = (head : RequestHead) (rest : List ℕ) → ¬ (HasHead octets head rest)

-- The octets begin with a head.
abbrev pub HasSome : List ℕ → Type 0
HasSome octets = (head : RequestHead) × (rest : List ℕ) × HasHead octets head rest

-- The text with these further octets is a head with at most 32 fields.
pub record Becomes (text more : List ℕ) (head : RequestHead) : Type 0 where
  pub reads : ReadsRequest (text ++ more) head []
  pub few : length head.fields ≤ 32

-- The text is a prefix of a head with at most 32 fields.
abbrev pub MayBecomeHead : List ℕ → Type 0
MayBecomeHead text = (more : List ℕ) × (head : RequestHead) × Becomes text more head

-- The text is a prefix of such a head, or it ends within a request target, whatever may follow.
abbrev pub IsFront : List ℕ → Type 0
IsFront text = MayBecomeHead text ⊎ EndsInTarget text

-- The octets don't begin with a head, and no octets that follow the first 8,193 can change that.
pub record HasNoFront (octets : List ℕ) : Type 0 where
  pub none : HasNoHead octets
  pub never : ¬ (MayBecomeHead (take 8193 octets))

-- A head begins but doesn't end within 8,192 octets.
pub record IsTooLong (octets : List ℕ) : Type 0 where
  pub long : 8192 < length octets
  pub none : HasNoHead octets
  pub front : IsFront (take 8193 octets)

-- All octets together are only a part of a head.
pub record EndsInHead (octets : List ℕ) : Type 0 where
  pub some : 0 < length octets
  pub short : length octets ≤ 8192
  pub none : HasNoHead octets
  pub front : IsFront octets

-- A head may begin with the octets, but none is whole yet.
pub record IsBegun (octets : List ℕ) : Type 0 where
  pub short : length octets ≤ 8192
  pub none : HasNoHead octets
  pub front : IsFront octets

-- ---- bodies

abbrev pub fields_of : RequestHead → List Pair
fields_of head = map name_and_value head.fields

-- the length that Content-Length tells; a value that isn't 1 to 10 digits is refused
abbrev pub length_at : Option ℕ → Result ℕ FrontRefusal
length_at None = Err BadLength
length_at (Some n) = if nat_le n 65536 then Ok n else Err BodyTooLong

-- the length from the values of Content-Length; without a value a POST is refused, and other requests have no body
abbrev pub length_in : (posts : Bool) → List (List ℕ) → Result ℕ FrontRefusal
length_in true [] = Err NoLength
length_in false [] = Ok 0
length_in posts (v ∷ []) = length_at (decimal_of v)
length_in posts (v ∷ w ∷ vs) = Err BadLength

-- the length where there is not exactly one value, but `count` of them
abbrev pub length_of_none : (posts : Bool) → ℕ → Result ℕ FrontRefusal
length_of_none posts count = if nat_lt 0 count then Err BadLength else if posts then Err NoLength else Ok 0

-- how many octets the body after a head has (RFC 9112, section 6)
abbrev pub framing_of : (method : List ℕ) → List Pair → Result ℕ FrontRefusal
framing_of method fields =
    if nat_lt 0 (length (values_of (codes "transfer-encoding") fields)) then Err Chunked
    else length_in (bytes_eq method (codes "POST")) (values_of (codes "content-length") fields)

-- The octets begin with a head whose framing is refused for this cause.
abbrev pub IsFramedAs : List ℕ → FrontRefusal → Type 0
IsFramedAs octets e =
    (head : RequestHead) × (rest : List ℕ) × HasHead octets head rest × (framing_of head.method (fields_of head) ≡ Err e)

-- All octets together are a head and only a part of its body.
abbrev pub EndsInBody : List ℕ → Type 0
EndsInBody octets =
    (head : RequestHead) × (rest : List ℕ) × (n : ℕ) × HasHead octets head rest × (framing_of head.method (fields_of head) ≡ Ok n)
    × (length rest < n)

-- ---- requests

-- The connection closes after the response: the version is 1.0, or a field Connection says `close` (RFC 9112, section 9.3).
abbrev pub closes : ℕ → List Pair → Bool
closes minor fields = minor == 0 || has_value (codes "connection") (codes "close") fields

-- The octets begin with this request, and `rest` follows.
pub record IsRequest (octets : List ℕ) (request : HttpRequest) (rest : List ℕ) : Type 0 where
  pub head : RequestHead
  pub has : HasHead octets head (request.body ++ rest)
  pub method : request.method ≡ head.method
  pub target : request.target ≡ head.target
  pub fields : request.fields ≡ fields_of head
  pub framed : framing_of head.method (fields_of head) ≡ Ok (length request.body)
  pub close : request.close ≡ closes head.minor (fields_of head)

-- The octets of a connection don't begin with a request, for this cause. `BadHead` and `TooManyHeaders` are not told apart
-- here. A fault of the source, or a lack of memory, may come at any time.
abbrev pub IsRefused : List ℕ → FrontRefusal → Type 0
IsRefused octets NoRequest = octets ≡ []
IsRefused octets BadHead = HasNoFront octets
IsRefused octets TooManyHeaders = HasNoFront octets
IsRefused octets HeadTooLong = IsTooLong octets
IsRefused octets Chunked = IsFramedAs octets Chunked
IsRefused octets NoLength = IsFramedAs octets NoLength
IsRefused octets BadLength = IsFramedAs octets BadLength
IsRefused octets BodyTooLong = IsFramedAs octets BodyTooLong
IsRefused octets EndOfInput = EndsInHead octets ⊎ EndsInBody octets
IsRefused octets ReadFault = Unit {0}
IsRefused octets Memory = Unit {0}

-- Memory is taken for more octets of a head that has begun, and for the parts of a head and its body; for a bad head none is.
abbrev pub TakesMemory : List ℕ → Type 0
TakesMemory octets = IsBegun octets ⊎ HasSome octets

-- Memory ran out only where some is taken.
abbrev pub IsScarce : FrontRefusal → List ℕ → Type 0
IsScarce Memory octets = TakesMemory octets
IsScarce _ octets = Unit {0}
