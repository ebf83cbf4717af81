-- Why a line is refused: the first of the rules below that it breaks. Where all but the last are kept, it broke the last.
use Rattle.std.specs.Prelude.{ℕ, suc, ◌&&◌, ◌||◌, ◌==◌, nat_lt, if◌then◌else◌, List, [], ◌∷◌, length, take, Option, Some, None, is_some, is_none, unwrap_or}
use Rattle.std.specs.Str.{bytes_eq}
use lib.Chars.{codes}
use Rattle.declared_site.specs.declared.site.Site.{Site}
use Rattle.scenario_text.specs.declared.reading.Reading.{Reading}
use Rattle.scenario_text.specs.Words.{Word, words_of, first_of, one_of, two_of}
use Rattle.scenario_text.specs.Fields.{node_of, sae_of}
use Rattle.scenario_text.specs.Declaring.{free_link}
use Rattle.scenario_text.specs.Line.{is_printable, begins_blank, ends_blank, is_declaration}
use Rattle.scenario_text.specs.Text.{line_limit}
use Rattle.scenario_check.specs.declared.field.Field.{Field}
use Rattle.scenario_check.specs.declared.reason.Reason.{Reason}
use Rattle.scenario_check.specs.declared.reason.Reason.TheVariants.{TextTooLong, LineTooLong, ByteOrderMark, Tab, CarriageReturn, OtherOctet, BlankFirst, BlankLast, LateDeclaration, UnknownWord, NotTheForm, NotTheField, NameTaken, TooManyNodes, SameNode, TooManyLinks, LinkThere, TooManyApplications, SameHome, SlaveTwice, NotInBlock, TooManyRounds, BlockOpen, NoBlockOpen}
use Rattle.scenario_check.specs.Forms.{fits, fields_of, more_of, field_at}

-- ---- octets

-- the first octet that isn't printable
abbrev pub stray_of : List ℕ → Option ℕ
stray_of [] = None
stray_of (b ∷ bs) = if is_printable b then stray_of bs else Some b

unfoldable pub stray_reason : List ℕ → ℕ → Reason
stray_reason line octet =
    if bytes_eq (take 3 line) (239 ∷ 187 ∷ 191 ∷ []) then ByteOrderMark
    else if octet == 9 then Tab
    else if octet == 13 then CarriageReturn
    else OtherOctet octet

-- ---- words

-- The first word that isn't what its field wants. Too few words, or a word too many, are refused where all words before fit.
abbrev pub misfit_at : Site → Option Field → Word → Option Reason → Option Reason
misfit_at site None word behind = Some NotTheForm
misfit_at site (Some field) word behind = if fits site field word then behind else Some (NotTheField field word)

abbrev pub misfit : Site → List Field → (more : ℕ) → List Word → (place : ℕ) → Option Reason
misfit site fields more [] place = if nat_lt place (length fields) then Some NotTheForm else None
misfit site fields more (word ∷ ws) place = misfit_at site (field_at fields more place) word (misfit site fields more ws (suc place))

-- ---- lines whose words are all what their fields want

abbrev pub new_node_reason : Site → Option Word → Reason
new_node_reason site None = NotTheForm
new_node_reason site (Some name) = if is_some (node_of site name) then NameTaken else TooManyNodes

abbrev pub node_reason : Site → List Word → Reason
node_reason site ws = new_node_reason site (one_of ws)

abbrev pub new_link_reason : Site → Option (Word × Word) → Reason
new_link_reason site None = NotTheForm
new_link_reason site (Some ends) = if bytes_eq ends.0 ends.1 then SameNode else if is_none (free_link site.routes) then TooManyLinks else LinkThere

abbrev pub link_reason : Site → List Word → Reason
link_reason site ws = new_link_reason site (two_of ws)

abbrev pub new_sae_reason : Site → Option (Word × Word) → Reason
new_sae_reason site None = NotTheForm
new_sae_reason site (Some w) = if is_some (sae_of site w.0) then NameTaken else TooManyApplications

abbrev pub sae_reason : Site → List Word → Reason
sae_reason site ws = new_sae_reason site (two_of ws)

unfoldable pub rest_reason : Reading → Word → List Word → Reason
rest_reason r word ws =
    if bytes_eq word (codes "node") then node_reason r.site ws
    else if bytes_eq word (codes "link") then link_reason r.site ws
    else if bytes_eq word (codes "sae") then sae_reason r.site ws
    else if bytes_eq word (codes "allow") then SameHome
    else if bytes_eq word (codes "together") || bytes_eq word (codes "end") then BlockOpen
    else if bytes_eq word (codes "apart") then NoBlockOpen
    else if bytes_eq word (codes "fill-group") || bytes_eq word (codes "enc-group") then SlaveTwice
    else if is_some r.block then NotInBlock
    else TooManyRounds

-- ---- a whole line

abbrev pub formed_reason : Reading → Word → List Word → Option (List Field) → Reason
formed_reason r word ws None = UnknownWord word
formed_reason r word ws (Some fields) = unwrap_or (misfit r.site fields (more_of word) ws 0) (rest_reason r word ws)

unfoldable pub words_reason : Reading → Word → List Word → Reason
words_reason r word ws = if r.began && is_declaration word then LateDeclaration else formed_reason r word ws (fields_of word ws)

-- a line without words is never refused
abbrev pub first_word_reason : Reading → Option (Word × List Word) → Reason
first_word_reason r None = NotTheForm
first_word_reason r (Some w) = words_reason r w.0 w.1

abbrev pub printable_reason : Reading → List ℕ → Option ℕ → Reason
printable_reason r line (Some octet) = stray_reason line octet
printable_reason r line None =
    if begins_blank line then BlankFirst
    else if ends_blank line then BlankLast
    else first_word_reason r (first_of (words_of line))

unfoldable pub line_reason : Reading → List ℕ → Reason
line_reason r line = printable_reason r line (stray_of line)

-- a line that has `all` octets with its end, where `left` octets of the text are still allowed
unfoldable pub reason_for : Reading → (left all : ℕ) → List ℕ → Reason
reason_for r left all line =
    if nat_lt left all then TextTooLong
    else if nat_lt line_limit (length line) then LineTooLong
    else line_reason r line
