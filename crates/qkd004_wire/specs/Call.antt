-- The line of a stream call: the call that it is, or the place at which it is none (ETSI GS QKD 004 V2.1.1, clause 6).
use Rattle.std.specs.Prelude.{◌≡◌, ℕ, suc, Bool, ◌||◌, if◌then◌else◌, List, [], ◌∷◌, Option, Some, None, is_some, Result, Ok, Err}
use Rattle.std.specs.Str.{bytes_eq}
use lib.Chars.{codes}
use Rattle.net_model.specs.declared.event.Event.{Event}
use Rattle.declared_site.specs.declared.site.Site.{Site}
use Rattle.run_types.specs.declared.stream_call.StreamCall.{StreamCall}
use Rattle.scenario_text.specs.Words.{◌>>=◌, Word, first_of, words_of, number_of, number_in}
use Rattle.scenario_text.specs.Fields.{sae_of, stream_of}
use Rattle.scenario_text.specs.Line.{begins_blank, ends_blank}
use Rattle.scenario_text.specs.Calling.{call_at}
use Rattle.run_model.specs.Turn.{event_of}
use Rattle.qkd004_wire.specs.declared.field.Field.{Field}
use Rattle.qkd004_wire.specs.declared.field.Field.TheVariants.{Application, StreamOrHyphen, Stream, Bits, Index}
use Rattle.qkd004_wire.specs.declared.bad_call.BadCall.{BadCall}

-- Spaces separate the words of a line. No space stands before the first word, and none behind the last.
unfoldable pub call_in : Site → List ℕ → Option StreamCall
call_in site line =
    if begins_blank line || ends_blank line then None
    else first_of (words_of line) >>= λ w. call_at site w.0 w.1

-- ---- the place of a refusal

-- the fields behind the first word of a call
unfoldable pub fields_of : Word → List Field
fields_of word =
    if bytes_eq word (codes "OPEN_CONNECT") then Application ∷ Application ∷ StreamOrHyphen ∷ Bits ∷ []
    else if bytes_eq word (codes "GET_KEY") then Application ∷ Stream ∷ Index ∷ []
    else if bytes_eq word (codes "CLOSE") then Application ∷ Stream ∷ []
    else []

unfoldable pub fits : Site → Field → Word → Bool
fits site Application word = is_some (sae_of site word)
fits site StreamOrHyphen word = bytes_eq word (codes "-") || is_some (stream_of word)
fits site Stream word = is_some (stream_of word)
fits site Bits word = is_some (number_in 0 65535 word)
fits site Index word = is_some (number_of word)

-- how many leading words fit their fields
abbrev pub fitting : Site → List Field → List Word → ℕ
fitting site [] ws = 0
fitting site (f ∷ fs) [] = 0
fitting site (f ∷ fs) (w ∷ ws) = if fits site f w then suc (fitting site fs ws) else 0

-- The first word and the leading words behind it that fit, counted. If the first word begins no call, the count is 0.
abbrev pub place_behind : Site → List Field → List Word → ℕ
place_behind site [] ws = 0
place_behind site (f ∷ fs) ws = suc (fitting site (f ∷ fs) ws)

abbrev pub place_among : Site → List Word → ℕ
place_among site [] = 0
place_among site (w ∷ ws) = place_behind site (fields_of w) ws

-- The place of the first word that doesn't fit, counted from 0. If a word is missing, it is the number of words. A space before the first word
-- is refused at place 0, and a space behind the last word at the number of words.
unfoldable pub bad_place : Site → List ℕ → ℕ
bad_place site line = if begins_blank line then 0 else place_among site (words_of line)

-- The result of reading a line: the event of its call, or the place at which it is no call.
abbrev pub Calls : Site → List ℕ → Result Event BadCall → Type 0
Calls site line (Ok event) = (call : StreamCall) × ((call_in site line ≡ Some call) × (event ≡ event_of call))
Calls site line (Err bad) = (call_in site line ≡ None) × (bad.place ≡ bad_place site line)
