-- The forms of lines: what the words behind the first one have to be, by the reader's own words.
use Rattle.std.specs.Prelude.{ℕ, ◌+◌, ◌-◌, min, Bool, false, not, ◌||◌, nat_lt, nat_le, if◌then◌else◌, List, [], ◌∷◌, length, slice_get, Option, Some, None, is_some}
use Rattle.std.specs.Str.{bytes_eq}
use lib.Chars.{codes}
use Rattle.qkd_base.specs.Name.{Name}
use Rattle.declared_site.specs.declared.site.Site.{Site}
use Rattle.scenario_text.specs.Words.{Word, is_name, number_in}
use Rattle.scenario_text.specs.Fields.{node_of, sae_of, link_of, way_of, name_of, stream_of, size_of, ends_named, image_named, octets_of_hex}
use Rattle.scenario_check.specs.declared.field.Field.{Field}
use Rattle.scenario_check.specs.declared.field.Field.TheVariants.{NewName, Node, Application, Link, Way, Ends, Image, Name as AnyName, GivenName, Stream, StreamOrHyphen, Call, Size, Number, Hexadecimal}

-- ---- fields

-- a declared node gives this name
abbrev pub is_from : Site → Option Name → Bool
is_from site None = false
is_from site (Some name) = not (nat_le (length site.nodes) name.node)

abbrev pub is_given : Site → Word → Bool
is_given site word = is_from site (name_of word)

abbrev pub is_call : Word → Bool
is_call word = bytes_eq word (codes "OPEN_CONNECT") || bytes_eq word (codes "GET_KEY") || bytes_eq word (codes "CLOSE")

-- the word is what the field wants
unfoldable pub fits : Site → Field → Word → Bool
fits site (NewName most) word = is_name most word
fits site Node word = is_some (node_of site word)
fits site Application word = is_some (sae_of site word)
fits site Link word = is_some (link_of site word)
fits site Way word = is_some (way_of word)
fits site Ends word = is_some (ends_named word)
fits site Image word = is_some (image_named word)
fits site AnyName word = is_some (name_of word)
fits site GivenName word = is_given site word
fits site Stream word = is_some (stream_of word)
fits site StreamOrHyphen word = bytes_eq word (codes "-") || is_some (stream_of word)
fits site Call word = is_call word
fits site Size word = is_some (size_of word)
fits site (Number least most) word = is_some (number_in least most word)
fits site (Hexadecimal most) word = is_some (octets_of_hex most word)

-- ---- forms

-- the words behind `q004`: a node, a call, and what the call wants
unfoldable pub call_fields : List Word → List Field
call_fields [] = Node ∷ Call ∷ []
call_fields (node ∷ []) = Node ∷ Call ∷ []
call_fields (node ∷ call ∷ ws) =
    if bytes_eq call (codes "OPEN_CONNECT") then Node ∷ Call ∷ Application ∷ Application ∷ StreamOrHyphen ∷ Number 0 65535 ∷ []
    else if bytes_eq call (codes "GET_KEY") then Node ∷ Call ∷ Application ∷ Stream ∷ Number 0 4294967295 ∷ []
    else if bytes_eq call (codes "CLOSE") then Node ∷ Call ∷ Application ∷ Stream ∷ []
    else Node ∷ Call ∷ []

-- lines about keys and links
unfoldable pub lower_fields : Word → List Word → Option (List Field)
lower_fields word ws =
    if bytes_eq word (codes "q004") then Some (call_fields ws)
    else if bytes_eq word (codes "enc") then Some (Node ∷ Application ∷ Application ∷ Number 1 128 ∷ Size ∷ [])
    else if bytes_eq word (codes "dec") then Some (Node ∷ Application ∷ Application ∷ AnyName ∷ [])
    else if bytes_eq word (codes "status") then Some (Node ∷ Application ∷ Application ∷ [])
    else if bytes_eq word (codes "show") then Some (Node ∷ AnyName ∷ [])
    else if bytes_eq word (codes "http") then Some (Node ∷ Hexadecimal 73728 ∷ [])
    else if bytes_eq word (codes "ledger") then Some (Link ∷ Way ∷ [])
    else if bytes_eq word (codes "link-up") || bytes_eq word (codes "link-down") then Some (Link ∷ [])
    else if bytes_eq word (codes "fill-group") then Some (Application ∷ Size ∷ Number 1 128 ∷ Application ∷ Application ∷ [])
    else if bytes_eq word (codes "enc-group") then Some (Node ∷ Application ∷ Number 1 128 ∷ Size ∷ Application ∷ Application ∷ [])
    else None

-- lines about frames, nodes and their disks, and those above
unfoldable pub middle_fields : Word → List Word → Option (List Field)
middle_fields word ws =
    if bytes_eq word (codes "pass") then Some (Link ∷ Way ∷ Number 0 4294967295 ∷ [])
    else if bytes_eq word (codes "flip") then Some (Link ∷ Way ∷ Number 0 4294967295 ∷ Number 0 4294967295 ∷ [])
    else if bytes_eq word (codes "forge") then Some (Link ∷ Way ∷ Hexadecimal 600 ∷ [])
    else if bytes_eq word (codes "tick") || bytes_eq word (codes "crash") || bytes_eq word (codes "start") then Some (Node ∷ [])
    else if bytes_eq word (codes "cut") then Some (Node ∷ Number 1 1000000 ∷ Image ∷ [])
    else if bytes_eq word (codes "fail") then Some (Node ∷ Number 1 1000000 ∷ [])
    else lower_fields word ws

-- what the words behind the first one of a line have to be; the last may stand several times
unfoldable pub fields_of : Word → List Word → Option (List Field)
fields_of word ws =
    if bytes_eq word (codes "node") then Some (NewName 32 ∷ [])
    else if bytes_eq word (codes "link") then Some (Node ∷ Node ∷ [])
    else if bytes_eq word (codes "sae") then Some (NewName 64 ∷ Node ∷ [])
    else if bytes_eq word (codes "allow") then Some (Application ∷ Application ∷ [])
    else if bytes_eq word (codes "together") || bytes_eq word (codes "apart") || bytes_eq word (codes "end") then Some []
    else if bytes_eq word (codes "bits") then Some (Link ∷ Ends ∷ Number 1 1024 ∷ [])
    else if bytes_eq word (codes "fill") then Some (Application ∷ Application ∷ Size ∷ Number 1 128 ∷ [])
    else if bytes_eq word (codes "feed") then Some (GivenName ∷ Number 1 128 ∷ [])
    else if bytes_eq word (codes "settle") then Some (Number 1 1000 ∷ [])
    else middle_fields word ws

-- how many words more a line may have, each as its last field: a `dec` has up to 128 names, a group up to 5 slaves
abbrev pub more_of : Word → ℕ
more_of word =
    if bytes_eq word (codes "dec") then 127
    else if bytes_eq word (codes "fill-group") || bytes_eq word (codes "enc-group") then 3
    else 0

-- the field of the word at a place
abbrev pub field_at : List Field → (more place : ℕ) → Option Field
field_at fields more place = if nat_lt place (length fields + more) then slice_get fields (min place (length fields - 1)) else None
