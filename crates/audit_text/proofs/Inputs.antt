-- A text is its scenario and the report behind it, and is read or refused as these are.
use Rattle.std.proofs.Common.{◌≡◌, ℕ, ◌+◌, ◌-◌, ◌≤◌, List, length, take, drop, Result, Ok, sym, ap, subst, ◌∙◌, inl, inr}
use Rattle.std.specs.Prelude.{MatchResult}
use Rattle.std.proofs.lemmas.List.{take_all}
use Rattle.run_types.specs.declared.scenario.Scenario.{Scenario}
use Rattle.scenario_text.specs.declared.refusal.ScenarioRefusal.{ScenarioRefusal}
use Rattle.scenario_text.specs.declared.refusal.ScenarioRefusal.TheVariants as scenario
use Rattle.scenario_text.specs.Text.{meaning_of, parts_of, Refuses, text_limit}
use Rattle.audit_text.specs.declared.refusal.AuditRefusal.{AuditRefusal}
use Rattle.audit_text.specs.declared.input.Input.{Input}
use Rattle.audit_text.specs.Input.{octets_to_end, lines_to_end, scenario_size, report_part, report_line, IsFirstNoLine, IsInput, IsInputOf, IsBadLine, IsBadLineOf, IsNotRead, refusal_of}
use Rattle.audit_text.proofs.Reports.{refused_as}

pub scenario_refused : (text : List ℕ) (size : ℕ) (refusal : ScenarioRefusal) → size ≡ octets_to_end (parts_of text) → Refuses refusal (meaning_of (take size text)) → IsNotRead (IsBadLineOf text) (refusal_of refusal)
scenario_refused text size (scenario.BadLine n) e h = inl (ap (λ (k : ℕ). meaning_of (take k text)) (sym e) ∙ h)
scenario_refused text size scenario.Memory e h = tt

bad_line : (text report : List ℕ) (s : Scenario) (size left first n : ℕ) → size ≡ octets_to_end (parts_of text) → meaning_of (take size text) ≡ Ok s → left ≡ text_limit - size → first ≡ lines_to_end (parts_of text) + 1 →
    report ≡ drop size text → IsFirstNoLine s.site left first (parts_of report) n → IsBadLineOf text n
bad_line text report s size left first n e means left_is first_is report_is h =
    let means_all : meaning_of (take (scenario_size text) text) ≡ Ok s = ap (λ (k : ℕ). meaning_of (take k text)) (sym e) ∙ means in
    let left_e : left ≡ text_limit - scenario_size text = left_is ∙ ap (λ (k : ℕ). text_limit - k) e in
    let report_e : report ≡ report_part text = report_is ∙ ap (λ (k : ℕ). drop k text) e in
    let a = subst (λ (k : ℕ). IsFirstNoLine s.site k first (parts_of report) n) left_e h in
    let b = subst (λ (k : ℕ). IsFirstNoLine s.site (text_limit - scenario_size text) k (parts_of report) n) first_is a in
    inr (s, means_all, subst (λ (r : List ℕ). IsFirstNoLine s.site (text_limit - scenario_size text) (report_line text) (parts_of r) n) report_e b)

pub report_refused : (text report : List ℕ) (s : Scenario) (size left first : ℕ) (refusal : AuditRefusal) → size ≡ octets_to_end (parts_of text) → meaning_of (take size text) ≡ Ok s → left ≡ text_limit - size →
    first ≡ lines_to_end (parts_of text) + 1 → report ≡ drop size text → IsNotRead (λ n. IsFirstNoLine s.site left first (parts_of report) n) refusal → IsNotRead (IsBadLineOf text) refusal
report_refused text report s size left first refusal e means left_is first_is report_is h =
    refused_as (λ n. IsFirstNoLine s.site left first (parts_of report) n) (IsBadLineOf text) refusal (λ n bad. bad_line text report s size left first n e means left_is first_is report_is bad) h

pub all_looked_at : (text : List ℕ) (r : Result Input AuditRefusal) → length text ≤ 4194305 →
    MatchResult r (λ (input : Input). IsInputOf text input) (λ (e : AuditRefusal). IsNotRead (IsBadLineOf text) e) →
    MatchResult r (λ (input : Input). IsInput text input) (λ (e : AuditRefusal). IsNotRead (IsBadLine text) e)
all_looked_at text r short h =
    subst (λ (t : List ℕ). MatchResult r (λ (input : Input). IsInputOf t input) (λ (e : AuditRefusal). IsNotRead (IsBadLineOf t) e)) (sym (take_all 4194305 text short)) h
