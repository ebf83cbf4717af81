use Rattle.std.proofs.Common.{List, ap, ◌∙◌}
use Rattle.run_types.specs.declared.item.NumberedItem.{NumberedItem}
use Rattle.run_audit.specs.Rules.{verdict_of}
use Rattle.audit_text.proofs.verdict_line.audit_text.Goals as goal

pub returns : goal.returns
returns c =
    let input = c.in_ok-input.input in
    (input, c.in_ok-input.ensures.input, c.in_ok-audit.ensures ∙ ap (λ (told : List NumberedItem). verdict_of input.scenario told input.first) c.as_slice.ensures)
