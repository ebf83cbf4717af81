-- What is said of a text, as a function of its octets: the counts of the scenario that it is, or its first refused lines.
use Rattle.std.specs.Prelude.{◌≡◌, ℕ, ◌+◌, ◌-◌, ◌||◌, ◌&&◌, ◌==◌, nat_lt, Bool, if◌then◌else◌, List, [], ◌∷◌, ◌++◌, length, take, Option, Some, None, Result, Ok, Err, unwrap_or}
use Rattle.std.specs.Str.Lines.{strip_carriage_return}
use Rattle.qkd_base.specs.declared.memory.Memory.{Memory}
use Rattle.route_table.specs.Table.{Table}
use Rattle.declared_site.specs.declared.site.Site.{Site}
use Rattle.scenario_text.specs.declared.reading.Reading.{Reading}
use Rattle.scenario_text.specs.Declaring.{free_link}
use Rattle.scenario_text.specs.Line.{Step, Goes, Ends, nothing_read, line_at}
use Rattle.scenario_text.specs.Text.{text_limit, within, parts_of}
use Rattle.scenario_check.specs.declared.reason.Reason.{Reason}
use Rattle.scenario_check.specs.declared.reason.Reason.TheVariants.{NoEnd, BehindEnd}
use Rattle.scenario_check.specs.declared.refusal.Refusal.{Refusal}
use Rattle.scenario_check.specs.declared.refusal.Counts.{Counts}
use Rattle.scenario_check.specs.declared.refusal.Checked.{Checked}
use Rattle.scenario_check.specs.declared.refusal.Checked.TheVariants.{Fine, Refused}
use Rattle.scenario_check.specs.declared.check.Judged.{Judged}
use Rattle.scenario_check.specs.declared.check.Judged.TheVariants as judged
use Rattle.scenario_check.specs.Reasons.{reason_for}

-- ---- a text that is a scenario

-- links are numbered from 0, so the first free number is how many there are
abbrev pub link_count : Table → ℕ
link_count t = unwrap_or (free_link t) 32

abbrev pub counts_of : Site → (lines : ℕ) → Counts
counts_of site lines = record { nodes = length site.nodes; links = link_count site.routes; applications = length site.entitlements.saes; lines = lines }

-- ---- refused lines

abbrev pub refusal : ℕ → List ℕ → Reason → Refusal
refusal number line reason = record { number = number; line = line; reason = reason }

-- the text is over, its last line is `end`, and these lines were refused
abbrev pub at_end : List Refusal → Site → (lines : ℕ) → Checked
at_end [] site lines = Fine (counts_of site lines)
at_end (first ∷ others) site lines = Refused (first ∷ others)

-- ten are enough, and a text that is too long is read no further
abbrev pub go_on : (is_over : Bool) → List Refusal → (List Refusal → Checked) → Checked
go_on is_over found follows = if is_over || length found == 10 then Refused found else follows found

-- the last part of a text, which has no end of line
unfoldable pub last_checked : ℕ → Reading → List Refusal → (left : ℕ) → List ℕ → Option Step → Checked
last_checked n r found left line None = Refused (found ++ refusal n line (reason_for r left (length line) line) ∷ [])
last_checked n r found left line (Some Ends) = at_end found r.site n
last_checked n r found left line (Some (Goes now)) = Refused (found ++ refusal n line NoEnd ∷ [])

-- a line, the part behind it, and what follows from there
unfoldable pub then_checked : ℕ → Reading → List Refusal → (left all : ℕ) → (line next : List ℕ) → Option Step → (at_end : Bool) → (Reading → List Refusal → Checked) → Checked
then_checked n r found left all line next None is_end follows = go_on (nat_lt left all) (found ++ refusal n line (reason_for r left all line) ∷ []) (follows r)
then_checked n r found left all line next (Some Ends) is_end follows =
    if is_end then at_end found r.site n else Refused (found ++ refusal (n + 1) (strip_carriage_return next) BehindEnd ∷ [])
then_checked n r found left all line next (Some (Goes now)) is_end follows = follows now found

-- The parts of a text between its line ends, from line n on, with this many octets left: as the reader reads them, but that a refused
-- line is noted and left out.
unfoldable pub checked_from : (left n : ℕ) → Reading → List Refusal → List (List ℕ) → Checked
checked_from left n r found [] = Refused (found ++ refusal n [] NoEnd ∷ [])
checked_from left n r found (part ∷ []) = last_checked n r found left part (within left (length part) (length part) (line_at r n part))
checked_from left n r found (part ∷ next ∷ parts) =
    then_checked n r found left (length part + 1) (strip_carriage_return part) next
    (within left (length part + 1) (length (strip_carriage_return part)) (line_at r n (strip_carriage_return part))) (length next == 0 && length parts == 0)
    (λ now more. checked_from (left - (length part + 1)) (n + 1) now more (next ∷ parts))

-- only one octet past the limit is read
abbrev pub checked_of : List ℕ → Checked
checked_of text = checked_from text_limit 1 nothing_read [] (parts_of (take (text_limit + 1) text))

-- the number of the first refused line
abbrev pub number_first : List Refusal → Option ℕ
number_first [] = None
number_first (first ∷ others) = Some first.number

abbrev pub first_number : Checked → Option ℕ
first_number (Fine counts) = None
first_number (Refused found) = number_first found

-- ---- one line

-- the answer of a line agrees with its meaning, and with the reason why it has none
abbrev pub Judges : Option Step → Reading → (left all : ℕ) → List ℕ → Reading → Result Judged Memory → Type 0
Judges means old left all line new (Ok judged.More) = means ≡ Some (Goes new)
Judges means old left all line new (Ok judged.Last) = (means ≡ Some Ends) × (new ≡ old)
Judges means old left all line new (Ok (judged.Refused reason)) = (means ≡ None) × (new ≡ old) × (reason ≡ reason_for old left all line)
Judges means old left all line new (Err e) = Unit {0}
