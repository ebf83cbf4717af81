-- The verdict on a text, and the line that states it.
use Rattle.std.specs.Prelude.{◌≡◌, ℕ, List, [], ◌∷◌, ◌++◌}
use Rattle.std.specs.Fmt.{decimal}
use lib.Chars.{codes}
use Rattle.run_audit.specs.declared.verdict.Verdict.{Verdict}
use Rattle.run_audit.specs.declared.verdict.Verdict.TheVariants.{Yes, No}
use Rattle.run_audit.specs.Rules.{verdict_of}
use Rattle.audit_text.specs.declared.input.Input.{Input}
use Rattle.audit_text.specs.Input.{IsInput}

-- The verdict is that of the audit on the text's input.
abbrev pub IsVerdict : List ℕ → Verdict → Type 0
IsVerdict text verdict = (input : Input) × IsInput text input × (verdict ≡ verdict_of input.scenario input.items input.first)

unfoldable pub verdict_text : Verdict → List ℕ
verdict_text (Yes frames deliveries ledgers) =
    codes "audit yes " ++ (decimal frames ++ (codes " " ++ (decimal deliveries ++ (codes " " ++ (decimal ledgers ++ 10 ∷ [])))))
verdict_text (No line rule) = codes "audit no " ++ (decimal line ++ (codes " " ++ (decimal rule ++ 10 ∷ [])))
