use Rattle.std.proofs.Common.{◌≡◌, ap, ◌∙◌}
use Rattle.uuid.specs.Text.{hyphenated_text, lower}
use Rattle.scenario_format.specs.Spelling.{name_word}
use Rattle.scenario_gen.proofs.words.name.Goals as goal

pub returns : goal.returns
returns c =
    let text : c.as_bytes.result.now ≡ name_word c.args.name = c.as_bytes.ensures.value ∙ (c.encode_lower-spelled.ensures.text ∙ ap (hyphenated_text lower) (c.hyphenated.ensures ∙ c.to_uuid.ensures.octets)) in
    rw text at c.word.ensures
