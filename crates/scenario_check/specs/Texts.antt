-- The lines in which a check is told.
use Rattle.std.specs.Prelude.{ℕ, nat_lt, if◌then◌else◌, List, [], ◌∷◌, ◌++◌, length, take, map, Option, Some, None}
use Rattle.std.specs.List.{flat_map}
use Rattle.std.specs.Fmt.{decimal}
use lib.Chars.{codes}
use Rattle.hex.specs.Hex.{encode_lower}
use Rattle.scenario_text.specs.Words.{Word, words_of, first_of}
use Rattle.scenario_text.specs.Line.{is_printable}
use Rattle.scenario_check.specs.declared.field.Field.{Field}
use Rattle.scenario_check.specs.declared.field.Field.TheVariants as fields
use Rattle.scenario_check.specs.declared.reason.Reason.{Reason}
use Rattle.scenario_check.specs.declared.reason.Reason.TheVariants as reasons
use Rattle.scenario_check.specs.declared.refusal.Refusal.{Refusal}
use Rattle.scenario_check.specs.declared.refusal.Counts.{Counts}
use Rattle.scenario_check.specs.declared.refusal.Checked.{Checked}
use Rattle.scenario_check.specs.declared.refusal.Checked.TheVariants.{Fine, Refused}
use Rattle.scenario_check.specs.Forms.{fields_of, more_of}

-- an octet that isn't printable ASCII is shown as a question mark
abbrev pub mark : ℕ → ℕ
mark b = if is_printable b then b else 63

-- the first 60 octets, and two dots where there are more
abbrev pub shown : List ℕ → List ℕ
shown octets = if nat_lt 60 (length octets) then map mark (take 60 octets) ++ codes ".." else map mark octets

-- ---- fields

-- what stands for a field in a form
unfoldable pub field_word : Field → List ℕ
field_word (fields.NewName most) = codes "NAME"
field_word fields.Node = codes "NODE"
field_word fields.Application = codes "ID"
field_word fields.Link = codes "LINK"
field_word fields.Way = codes "up|down"
field_word fields.Ends = codes "low|high|both"
field_word fields.Image = codes "lost|kept|torn"
field_word fields.Name = codes "NAME"
field_word fields.GivenName = codes "NAME"
field_word fields.Stream = codes "STREAM"
field_word fields.StreamOrHyphen = codes "-|STREAM"
field_word fields.Call = codes "CALL"
field_word fields.Size = codes "BITS"
field_word (fields.Number least most) = codes "NUMBER"
field_word (fields.Hexadecimal most) = codes "HEX"

-- why a word isn't what its field wants, up to the bounds of the field
unfoldable pub fault_words : Field → List ℕ
fault_words (fields.NewName most) = codes "no name of 1 to "
fault_words fields.Node = codes "no node "
fault_words fields.Application = codes "no application "
fault_words fields.Link = codes "no link "
fault_words fields.Way = codes "neither up nor down: "
fault_words fields.Ends = codes "none of low, high and both: "
fault_words fields.Image = codes "none of lost, kept and torn: "
fault_words fields.Name = codes "no name of a key, stream or note: "
fault_words fields.GivenName = codes "no name that a declared node gives: "
fault_words fields.Stream = codes "no name of a stream: "
fault_words fields.StreamOrHyphen = codes "neither - nor the name of a stream: "
fault_words fields.Call = codes "none of OPEN_CONNECT, GET_KEY and CLOSE: "
fault_words fields.Size = codes "no size from 64 to 4096 in steps of 8: "
fault_words (fields.Number least most) = codes "no number from "
fault_words (fields.Hexadecimal most) = codes "no pairs of hexadecimal digits, 1 to "

-- the bounds of a field
unfoldable pub fault_bounds : Field → List ℕ
fault_bounds (fields.NewName most) = decimal most ++ codes " letters, digits, _, - and .: "
fault_bounds (fields.Number least most) = decimal least ++ (codes " to " ++ (decimal most ++ codes ": "))
fault_bounds (fields.Hexadecimal most) = decimal most ++ codes ": "
fault_bounds _ = []

-- the word stands behind it
abbrev pub field_fault : Field → List ℕ
field_fault field = fault_words field ++ fault_bounds field

-- ---- forms

abbrev pub form_words : List Field → List ℕ
form_words fields = flat_map (λ field. 32 ∷ field_word field) fields

-- a word that begins a line, with what its fields want
unfoldable pub form_of_word : Word → Option (List Field) → List ℕ
form_of_word word None = shown word
form_of_word word (Some fields) = shown word ++ (form_words fields ++ (if nat_lt 0 (more_of word) then codes " .." else []))

abbrev pub form_behind : Option (Word × List Word) → List ℕ
form_behind None = []
form_behind (Some w) = form_of_word w.0 (fields_of w.0 w.1)

-- the form of a line with this first word
unfoldable pub form_text : List ℕ → List ℕ
form_text line = form_behind (first_of (words_of line))

-- ---- reasons

-- why a line is refused, up to what stands behind these words
unfoldable pub reason_words : Reason → List ℕ
reason_words reasons.TextTooLong = codes "more than 4194304 octets in all"
reason_words reasons.LineTooLong = codes "more than 150000 octets"
reason_words reasons.ByteOrderMark = codes "a byte order mark"
reason_words reasons.Tab = codes "a tab"
reason_words reasons.CarriageReturn = codes "a carriage return"
reason_words (reasons.OtherOctet octet) = codes "no printable ASCII: octet "
reason_words reasons.BlankFirst = codes "a blank before the first word"
reason_words reasons.BlankLast = codes "a blank behind the last word"
reason_words reasons.LateDeclaration = codes "a declaration behind other lines"
reason_words (reasons.UnknownWord word) = codes "no line begins with "
reason_words reasons.NotTheForm = codes "the form is: "
reason_words (reasons.NotTheField field word) = []
reason_words reasons.NameTaken = codes "the name is declared already"
reason_words reasons.TooManyNodes = codes "16 nodes are declared already"
reason_words reasons.SameNode = codes "both are one node"
reason_words reasons.TooManyLinks = codes "32 links are declared already"
reason_words reasons.LinkThere = codes "a link joins them already"
reason_words reasons.TooManyApplications = codes "256 applications are declared already"
reason_words reasons.SameHome = codes "both are at one node"
reason_words reasons.SlaveTwice = codes "an application is named twice"
reason_words reasons.NotInBlock = codes "not in a block"
reason_words reasons.TooManyRounds = codes "more than 100000 rounds in all"
reason_words reasons.BlockOpen = codes "a block is open"
reason_words reasons.NoBlockOpen = codes "no block is open"
reason_words reasons.NoEnd = codes "no end"
reason_words reasons.BehindEnd = codes "a line behind end"

-- what a reason is about
unfoldable pub reason_subject : List ℕ → Reason → List ℕ
reason_subject line (reasons.OtherOctet octet) = encode_lower (octet ∷ [])
reason_subject line (reasons.UnknownWord word) = shown word
reason_subject line reasons.NotTheForm = form_text line
reason_subject line (reasons.NotTheField field word) = field_fault field ++ shown word
reason_subject line _ = []

abbrev pub reason_text : List ℕ → Reason → List ℕ
reason_text line reason = reason_words reason ++ reason_subject line reason

-- ---- lines

-- the octets of a line and a colon, where it has some
unfoldable pub line_shown : List ℕ → List ℕ
line_shown [] = []
line_shown (b ∷ bs) = shown (b ∷ bs) ++ codes ": "

unfoldable pub refusal_text : Refusal → List ℕ
refusal_text r = codes "line " ++ (decimal r.number ++ (codes ": " ++ (line_shown r.line ++ (reason_text r.line r.reason ++ 10 ∷ []))))

unfoldable pub counts_text : Counts → List ℕ
counts_text c =
    codes "fine: nodes " ++ (decimal c.nodes ++ (codes ", links " ++ (decimal c.links ++ (codes ", applications " ++ (decimal c.applications ++ (codes ", lines " ++ (decimal c.lines ++ 10 ∷ [])))))))

unfoldable pub checked_text : Checked → List ℕ
checked_text (Fine counts) = counts_text counts
checked_text (Refused found) = flat_map refusal_text found
