use Rattle.std.proofs.Common.{List, ap, ◌∙◌}
use Rattle.run_types.specs.declared.item.NumberedItem.{NumberedItem}
use Rattle.whole_audit.specs.Whole.{whole_verdict_of}
use Rattle.whole_audit.proofs.text.whole_text.Goals as goal

pub returns : goal.returns
returns c =
    let input = c.in_ok-input.input in
    (input, c.in_ok-input.ensures.input, c.in_ok-whole_audit.ensures ∙ ap (λ (told : List NumberedItem). whole_verdict_of input.scenario told input.first) c.as_slice.ensures)
