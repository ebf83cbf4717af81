use Rattle.std.proofs.Common.{◌≡◌, ap, ◌∙◌}
use Rattle.uuid.specs.Text.{hyphenated_text, lower}
use Rattle.run_types.specs.Words.{name_text}
use Rattle.report_json.proofs.object.Object.of_name.Goals as goal

pub returns : goal.returns
returns c =
    let text : c.encode_lower-text.result.now ≡ name_text c.args.name = c.encode_lower-text.ensures.text ∙ ap (hyphenated_text lower) (c.hyphenated.ensures ∙ c.to_uuid.ensures.octets) in
    rw text at c.says.ensures
