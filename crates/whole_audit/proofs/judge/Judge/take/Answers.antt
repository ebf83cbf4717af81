use Rattle.std.proofs.Common.{◌≡◌, ℕ, true, false, not, ◌∷◌, Option, sym, ap, ◌∙◌}
use Rattle.std.specs.Prelude.{is_some}
use Rattle.whole_audit.specs.declared.findings.Findings.{Findings}
use Rattle.whole_audit.specs.Whole.{least_of, broken}
use Rattle.whole_audit.proofs.Deciding.{none_stands}
use Rattle.whole_audit.proofs.judge.Judge.take.Goals as goal

pub returns-in_ok-learn : goal.returns-in_ok-learn
returns-in_ok-learn c before rec =
    let stood = c.in_ok-stands.ensures {u = tt} before (c.owes-owes.ensures before rec.tables) rec.walk in
    let inside = c.is_in_block-inside.ensures (c.args.told.now ∷ before) stood.0 stood.1 in
    let found = c.findings-findings.ensures before rec.tables stood.0 inside in
    let least : c.least-rule.result ≡ broken c.args.scenario.now before c.args.told.now = c.least-rule.ensures ∙ ap least_of found in (
      least,
      λ none. record {
        walk = stood.1 (stood.0 ∙ sym (ap (λ (f : Findings). f.order) found) ∙ none_stands c.findings-findings.result (sym c.least-rule.ensures ∙ none));
        tables = c.in_ok-learn.ensures {u = tt} before rec.tables;
      },
    )

pub returns-else-is_none : goal.returns-else-is_none
returns-else-is_none c before rec =
    let stood = c.in_ok-stands.ensures {u = tt} before (c.owes-owes.ensures before rec.tables) rec.walk in
    let inside = c.is_in_block-inside.ensures (c.args.told.now ∷ before) stood.0 stood.1 in
    let found = c.findings-findings.ensures before rec.tables stood.0 inside in (
      c.least-rule.ensures ∙ ap least_of found,
      λ none. absurd (let u : true ≡ false = sym (ap not c.if-is_none.false) ∙ sym c.is_none.ensures ∙ ap (λ (o : Option ℕ). is_some o) none in cc),
    )
