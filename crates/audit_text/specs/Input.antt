-- The input of an audit: a text that has a scenario and, behind the scenario's end, the report of a run.
use Rattle.std.specs.Prelude.{◌≡◌, ◌≢◌, ℕ, suc, ◌+◌, ◌-◌, ◌<◌, ◌≤◌, ◌⊎◌, Bool, true, false, if◌then◌else◌, List, [], ◌∷◌, ◌++◌, length, take, drop, Ok, Err}
use Rattle.std.specs.Str.{bytes_eq}
use Rattle.std.specs.Str.Lines.{strip_carriage_return}
use lib.Chars.{codes}
use Rattle.declared_site.specs.declared.site.Site.{Site}
use Rattle.run_types.specs.declared.scenario.Scenario.{Scenario}
use Rattle.scenario_text.specs.Text.{meaning_of, parts_of, text_limit, line_limit}
use Rattle.scenario_text.specs.declared.refusal.ScenarioRefusal.{ScenarioRefusal}
use Rattle.scenario_text.specs.declared.refusal.ScenarioRefusal.TheVariants as scenario
use Rattle.run_types.specs.Texts.{line_text}
use Rattle.run_types.specs.declared.item.NumberedItem.{NumberedItem}
use Rattle.report_grammar.specs.Tellable.{CanTell, first_told}
use Rattle.run_audit.specs.Rows.{is_on_link}
use Rattle.audit_text.specs.declared.refusal.AuditRefusal.{AuditRefusal}
use Rattle.audit_text.specs.declared.refusal.AuditRefusal.TheVariants.{BadLine, Memory}
use Rattle.audit_text.specs.declared.input.Input.{Input}

-- ---- where the scenario ends

-- the line that ends a scenario
abbrev pub is_end : List ℕ → Bool
is_end line = bytes_eq (strip_carriage_return line) (codes "end")

-- How many octets the scenario has. It ends with the line feed of the first line `end`, or with the text. The parts stand between line feeds.
abbrev pub octets_to_end : List (List ℕ) → ℕ
octets_to_end [] = 0
octets_to_end (part ∷ []) = length part
octets_to_end (part ∷ next ∷ parts) = length part + 1 + (if is_end part then 0 else octets_to_end (next ∷ parts))

-- How many lines the scenario has.
abbrev pub lines_to_end : List (List ℕ) → ℕ
lines_to_end [] = 0
lines_to_end (part ∷ []) = 1
lines_to_end (part ∷ next ∷ parts) = if is_end part then 1 else suc (lines_to_end (next ∷ parts))

abbrev pub scenario_size : List ℕ → ℕ
scenario_size text = octets_to_end (parts_of text)

abbrev pub scenario_text : List ℕ → List ℕ
scenario_text text = take (scenario_size text) text

abbrev pub report_part : List ℕ → List ℕ
report_part text = drop (scenario_size text) text

-- the number of the first line of the report
abbrev pub report_line : List ℕ → ℕ
report_line text = lines_to_end (parts_of text) + 1

-- ---- the lines of a report

-- The line of an item, with `left` octets of the text still allowed. The item is the first with this text, and its link is declared.
pub record IsLineOf (site : Site) (left : ℕ) (part : List ℕ) (told : NumberedItem) : Type 0 where
  pub fits : length part + 1 ≤ left
  pub short : length part ≤ line_limit
  pub text : line_text site.nodes told ≡ part ++ 10 ∷ []
  pub first : (other : NumberedItem) → CanTell site.nodes other → line_text site.nodes other ≡ part ++ 10 ∷ [] → told ≡ first_told other
  pub declared : is_on_link site.routes told.item ≡ true

-- No line of a report: it passes a limit, or no item has this text, or the item is on a link that isn't declared.
abbrev pub IsNoLine : Site → (left : ℕ) → (part : List ℕ) → Type 0
IsNoLine site left part =
    (left < length part + 1)
    ⊎ ((line_limit < length part) ⊎ ((told : NumberedItem) → CanTell site.nodes told → line_text site.nodes told ≡ part ++ 10 ∷ [] → is_on_link site.routes (first_told told).item ≡ false))

-- The parts are the lines of these items, and nothing stands behind the last one.
abbrev pub AreLinesOf : Site → (left : ℕ) → (parts : List (List ℕ)) → List NumberedItem → Type 0
AreLinesOf site left [] items = ⊥
AreLinesOf site left (part ∷ []) [] = part ≡ []
AreLinesOf site left (part ∷ []) (told ∷ items) = ⊥
AreLinesOf site left (part ∷ next ∷ parts) [] = ⊥
AreLinesOf site left (part ∷ next ∷ parts) (told ∷ items) = IsLineOf site left part told × AreLinesOf site (left - (length part + 1)) (next ∷ parts) items

-- The line with this number is the first that is no line of a report. Numbers begin at n. A last part without an end is no line.
abbrev pub IsFirstNoLine : Site → (left n : ℕ) → (parts : List (List ℕ)) → (number : ℕ) → Type 0
IsFirstNoLine site left n [] number = ⊥
IsFirstNoLine site left n (part ∷ []) number = (part ≢ []) × (number ≡ n)
IsFirstNoLine site left n (part ∷ next ∷ parts) number =
    (IsNoLine site left part × (number ≡ n))
    ⊎ (((told : NumberedItem) × IsLineOf site left part told) × IsFirstNoLine site (left - (length part + 1)) (n + 1) (next ∷ parts) number)

-- ---- the whole text

-- The text has this scenario, and behind it a report with these items. The report's first line has the number `first`.
pub record IsInputOf (text : List ℕ) (input : Input) : Type 0 where
  pub scenario : meaning_of (scenario_text text) ≡ Ok input.scenario
  pub items : AreLinesOf input.scenario.site (text_limit - scenario_size text) (parts_of (report_part text)) input.items
  pub first : input.first ≡ report_line text

-- The number of the first line that belongs neither to a scenario nor, behind its end, to a report.
abbrev pub IsBadLineOf : List ℕ → ℕ → Type 0
IsBadLineOf text number =
    (meaning_of (scenario_text text) ≡ Err number)
    ⊎ ((scenario : Scenario) × (meaning_of (scenario_text text) ≡ Ok scenario) × IsFirstNoLine scenario.site (text_limit - scenario_size text) (report_line text) (parts_of (report_part text)) number)

-- Of a text that is too long, only the first octet past the limit is read.
abbrev pub IsInput : List ℕ → Input → Type 0
IsInput text input = IsInputOf (take (text_limit + 1) text) input

abbrev pub IsBadLine : List ℕ → ℕ → Type 0
IsBadLine text number = IsBadLineOf (take (text_limit + 1) text) number

-- A line was refused, and its number has the property Bad; or memory ran out.
abbrev pub IsNotRead : (ℕ → Type 0) → AuditRefusal → Type 0
IsNotRead Bad (BadLine number) = Bad number
IsNotRead Bad Memory = Unit {0}

-- The refusal of a scenario, as a refusal of the whole text.
abbrev pub refusal_of : ScenarioRefusal → AuditRefusal
refusal_of (scenario.BadLine number) = BadLine number
refusal_of scenario.Memory = Memory
