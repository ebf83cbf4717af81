use Rattle.std.proofs.Common.{◌≡◌, ap, ◌∙◌}
use Rattle.uuid.specs.Text.{hyphenated_text, lower}
use Rattle.run_types.specs.Words.{name_text}
use Rattle.report_text.proofs.words.name.Goals as goal

pub returns : goal.returns
returns c =
    let text : c.as_bytes.result.now ≡ name_text c.args.name = c.as_bytes.ensures.value ∙ (c.encode_lower-text.ensures.text ∙ ap (hyphenated_text lower) (c.hyphenated.ensures ∙ c.to_uuid.ensures.octets)) in
    rw text at c.word.ensures
