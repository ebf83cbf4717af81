-- The law that no text is both read and refused.
use Rattle.std.specs.Prelude.{ℕ, List, [], ◌∷◌}
use Rattle.run_types.specs.declared.item.NumberedItem.{NumberedItem}
use Rattle.report_grammar.specs.Tellable.{CanTell}
use Rattle.audit_text.specs.declared.input.Input.{Input}
use Rattle.audit_text.specs.Input.{IsInput, IsBadLine}

-- A line can tell each of these items.
abbrev pub CanTellAll : List (List ℕ) → List NumberedItem → Type 0
CanTellAll nodes [] = Unit {0}
CanTellAll nodes (told ∷ items) = CanTell nodes told × CanTellAll nodes items

-- A text that is read as an input has no bad line, if each of its items is one that a line can tell.
abbrev pub ReadOrRefused : Type 0
ReadOrRefused = (text : List ℕ) (input : Input) (n : ℕ) → IsInput text input → CanTellAll input.scenario.site.nodes input.items → ¬ (IsBadLine text n)
