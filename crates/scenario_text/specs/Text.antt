-- The meaning of a whole text: the scenario that it says, or the number of the first line that is refused.
use Rattle.std.specs.Prelude.{◌≡◌, ℕ, ◌+◌, ◌-◌, Bool, true, false, ◌&&◌, ◌||◌, ◌==◌, nat_lt, if◌then◌else◌, List, [], ◌∷◌, length, take, Option, Some, None, Result, Ok, Err}
use Rattle.std.specs.List.{slice_split}
use Rattle.std.specs.Str.Lines.{strip_carriage_return}
use Rattle.run_types.specs.declared.scenario.Scenario.{Scenario}
use Rattle.scenario_text.specs.declared.refusal.LineRefusal.{LineRefusal}
use Rattle.scenario_text.specs.declared.refusal.LineRefusal.TheVariants as line
use Rattle.scenario_text.specs.declared.refusal.ScenarioRefusal.{ScenarioRefusal}
use Rattle.scenario_text.specs.declared.refusal.ScenarioRefusal.TheVariants.{BadLine, Memory}
use Rattle.scenario_text.specs.declared.reading.Reading.{Reading}
use Rattle.scenario_text.specs.Line.{nothing_read, Step, Goes, Ends, line_at}

abbrev pub Meaning : Type 0
Meaning = Result Scenario ℕ

abbrev pub scenario_in : Reading → Scenario
scenario_in r = record { site = r.site; node_lines = r.node_lines; entries = r.entries }

abbrev pub text_limit : ℕ
text_limit = 4194304

abbrev pub line_limit : ℕ
line_limit = 150000

-- A line is refused if it has more octets with its end than are left, or more without its end than a line may have.
unfoldable pub within : {X : Type 0} → (left all own : ℕ) → Option X → Option X
within left all own means = if nat_lt left all || nat_lt line_limit own then None else means

-- the last part of a text, which has no end of line, after what was read so far
unfoldable pub last_at : ℕ → Reading → Option Step → Meaning
last_at n r None = Err n
last_at n r (Some Ends) = Ok (scenario_in r)
last_at n r (Some (Goes now)) = Err n

-- A line, after what was read so far, and what follows from the lines after it. Nothing may come after the last line.
unfoldable pub then_lines : ℕ → Reading → Option Step → (at_end : Bool) → (Reading → Meaning) → Meaning
then_lines n r None at_end follows = Err n
then_lines n r (Some Ends) at_end follows = if at_end then Ok (scenario_in r) else Err (n + 1)
then_lines n r (Some (Goes now)) at_end follows = follows now

-- the parts of a text between its line ends, from line n on, with this many octets left
unfoldable pub parts_from : (left n : ℕ) → Reading → List (List ℕ) → Meaning
parts_from left n r [] = Err n
parts_from left n r (part ∷ []) = last_at n r (within left (length part) (length part) (line_at r n part))
parts_from left n r (part ∷ next ∷ parts) =
    then_lines n r (within left (length part + 1) (length (strip_carriage_return part)) (line_at r n (strip_carriage_return part))) (length next == 0 && length parts == 0)
    (λ now. parts_from (left - (length part + 1)) (n + 1) now (next ∷ parts))

abbrev pub parts_of : List ℕ → List (List ℕ)
parts_of bytes = slice_split (λ b. b == 10) bytes

-- Only one octet past the limit is read; no octet after it has an effect.
abbrev pub meaning_of : List ℕ → Meaning
meaning_of text = parts_from text_limit 1 nothing_read (parts_of (take (text_limit + 1) text))

-- The refusal agrees with the meaning of the text. When memory runs out, nothing is claimed.
abbrev pub Refuses : ScenarioRefusal → Meaning → Type 0
Refuses (BadLine n) meaning = meaning ≡ Err n
Refuses Memory meaning = Unit {0}

-- The result of a line agrees with its meaning: it was the last line, or it was not, or it is refused. What was read before
-- a last line or a refused one stays.
abbrev pub Takes : Option Step → Reading → Reading → Result Bool LineRefusal → Type 0
Takes means old new (Ok true) = (means ≡ Some Ends) × (new ≡ old)
Takes means old new (Ok false) = means ≡ Some (Goes new)
Takes means old new (Err line.Refused) = (means ≡ None) × (new ≡ old)
Takes means old new (Err line.Memory) = Unit {0}

-- the refusal of a scenario, from that of its line n
abbrev pub refusal_of : ℕ → LineRefusal → ScenarioRefusal
refusal_of n line.Refused = BadLine n
refusal_of n line.Memory = Memory
