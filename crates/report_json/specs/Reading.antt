-- What a text that has a scenario and a report is written as.
use Rattle.std.specs.Prelude.{◌≡◌, ℕ, List}
use Rattle.audit_text.specs.declared.input.Input.{Input}
use Rattle.audit_text.specs.Input.{IsInput}
use Rattle.report_json.specs.Lines.{json_of}

-- the JSON of the report that a text has behind its scenario
abbrev pub IsJson : List ℕ → List ℕ → Type 0
IsJson text json = (input : Input) × IsInput text input × (json ≡ json_of input.scenario.site.nodes input.items)
