use Rattle.std.proofs.Common.{List, ap, ◌∙◌}
use Rattle.run_types.specs.declared.item.NumberedItem.{NumberedItem}
use Rattle.report_json.specs.Lines.{json_of}
use Rattle.report_json.proofs.report_objects.json_text.Goals as goal

pub returns : goal.returns
returns c =
    let input = c.in_ok-input.input in
    (input, c.in_ok-input.ensures.input, c.in_ok-json_of.ensures ∙ ap (λ (told : List NumberedItem). json_of input.scenario.site.nodes told) c.as_slice.ensures)
