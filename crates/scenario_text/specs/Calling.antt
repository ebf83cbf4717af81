-- The calls on streams (ETSI GS QKD 004 V2.1.1, clause 6), read from the words of a line.
use Rattle.std.specs.Prelude.{ℕ, if◌then◌else◌, List, Option, Some, None}
use Rattle.std.specs.Str.{bytes_eq}
use lib.Chars.{codes}
use Rattle.declared_site.specs.declared.site.Site.{Site}
use Rattle.run_types.specs.declared.command.Command.{Command}
use Rattle.run_types.specs.declared.command.Command.TheVariants.{Stream}
use Rattle.run_types.specs.declared.stream_call.StreamCall.{StreamCall}
use Rattle.run_types.specs.declared.stream_call.StreamCall.TheVariants.{Open, Join, Get, Close}
use Rattle.scenario_text.specs.Words.{◌>>=◌, Word, first_of, two_of, three_of, four_of, number_of, number_in}
use Rattle.scenario_text.specs.Fields.{node_of, sae_of, stream_of}

-- `OPEN_CONNECT ID ID - BITS`: source and peer; `OPEN_CONNECT ID ID STREAM BITS`: caller and source. BITS is below
-- 65,536
abbrev pub open_or_join : (caller other bits : ℕ) → Word → Option StreamCall
open_or_join caller other bits word =
    if bytes_eq word (codes "-") then Some (Open caller other bits) else (stream_of word >>= λ stream. Some (Join caller other stream bits))

unfoldable pub open_at : Site → List Word → Option StreamCall
open_at site ws = do
  w ← four_of ws
  caller ← sae_of site w.0
  other ← sae_of site w.1
  bits ← number_in 0 65535 w.3
  open_or_join caller other bits w.2

-- `GET_KEY ID STREAM INDEX`
unfoldable pub get_at : Site → List Word → Option StreamCall
get_at site ws = do
  w ← three_of ws
  caller ← sae_of site w.0
  stream ← stream_of w.1
  index ← number_of w.2
  Some (Get caller stream index)

-- `CLOSE ID STREAM`
unfoldable pub close_at : Site → List Word → Option StreamCall
close_at site ws = do
  w ← two_of ws
  caller ← sae_of site w.0
  stream ← stream_of w.1
  Some (Close caller stream)

unfoldable pub call_at : Site → Word → List Word → Option StreamCall
call_at site word ws =
    if bytes_eq word (codes "OPEN_CONNECT") then open_at site ws
    else if bytes_eq word (codes "GET_KEY") then get_at site ws
    else if bytes_eq word (codes "CLOSE") then close_at site ws
    else None

-- `q004 NAME CALL`
unfoldable pub stream_at : Site → List Word → Option Command
stream_at site ws = do
  a ← first_of ws
  b ← first_of a.1
  node ← node_of site a.0
  call ← call_at site b.0 b.1
  Some (Stream node call)
