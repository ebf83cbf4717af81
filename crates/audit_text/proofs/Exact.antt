-- A text that is read as an input has no bad line.
use Rattle.std.proofs.Common.{◌≡◌, ℕ, ◌+◌, ◌-◌, true, false, List, [], ◌∷◌, length, Ok, Err, sym, ap, subst, ◌∙◌, inl, inr, arith}
use Rattle.declared_site.specs.declared.site.Site.{Site}
use Rattle.run_types.specs.declared.scenario.Scenario.{Scenario}
use Rattle.run_types.specs.declared.item.NumberedItem.{NumberedItem}
use Rattle.report_grammar.specs.Tellable.{CanTell, first_told}
use Rattle.run_audit.specs.Rows.{is_on_link}
use Rattle.scenario_text.specs.Text.{parts_of, text_limit}
use Rattle.audit_text.specs.declared.input.Input.{Input}
use Rattle.audit_text.specs.Input.{scenario_size, report_part, report_line, IsLineOf, IsNoLine, AreLinesOf, IsFirstNoLine, IsInputOf, IsBadLineOf}
use Rattle.audit_text.specs.Laws.{CanTellAll, ReadOrRefused}

is_no_other : (site : Site) (left : ℕ) (part : List ℕ) (told : NumberedItem) → IsLineOf site left part told → CanTell site.nodes told → IsNoLine site left part → ⊥
is_no_other site left part told is can (inl long) = omega (arith, is.fits, long)
is_no_other site left part told is can (inr (inl long)) = omega (arith, is.short, long)
is_no_other site left part told is can (inr (inr nothing)) =
    let own : told ≡ first_told told = is.first told can is.text in
    let on : true ≡ false = sym is.declared ∙ ap (λ (t : NumberedItem). is_on_link site.routes t.item) own ∙ nothing told can is.text in
    cc

none_is_bad : (site : Site) (left n : ℕ) (parts : List (List ℕ)) (items : List NumberedItem) (number : ℕ) → AreLinesOf site left parts items → CanTellAll site.nodes items → IsFirstNoLine site left n parts number → ⊥
none_is_bad site left n [] items number are can bad = absurd are
none_is_bad site left n (part ∷ []) [] number are can bad = bad.0 are
none_is_bad site left n (part ∷ []) (told ∷ items) number are can bad = absurd are
none_is_bad site left n (part ∷ next ∷ parts) [] number are can bad = absurd are
none_is_bad site left n (part ∷ next ∷ parts) (told ∷ items) number are can (inl bad) = is_no_other site left part told are.0 can.0 bad.0
none_is_bad site left n (part ∷ next ∷ parts) (told ∷ items) number are can (inr bad) = none_is_bad site (left - (length part + 1)) (n + 1) (next ∷ parts) items number are.1 can.1 bad.1

not_both : (text : List ℕ) (input : Input) (n : ℕ) → IsInputOf text input → CanTellAll input.scenario.site.nodes input.items → IsBadLineOf text n → ⊥
not_both text input n is can (inl refused) = absurd (let e : Ok input.scenario ≡ Err n = sym is.scenario ∙ refused in (cc))
not_both text input n is can (inr bad) =
    let same : bad.0 ≡ input.scenario = let e : Ok bad.0 ≡ Ok input.scenario = sym bad.1 ∙ is.scenario in (cc) in
    none_is_bad input.scenario.site (text_limit - scenario_size text) (report_line text) (parts_of (report_part text)) input.items n is.items can
    (subst (λ (s : Scenario). IsFirstNoLine s.site (text_limit - scenario_size text) (report_line text) (parts_of (report_part text)) n) same bad.2)

pub read_or_refused : ReadOrRefused
read_or_refused text input n is can bad = not_both _ input n is can bad
