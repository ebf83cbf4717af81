use Rattle.std.proofs.Common.{◌≡◌, ap, ◌∙◌}
use Rattle.scenario_text.specs.Text.{meaning_of}
use Rattle.scenario_gen.specs.LoadText.{load_text}
use Rattle.scenario_gen.proofs.Whole.{load_is_read}
use Rattle.scenario_gen.proofs.Growing.{whole}
use Rattle.scenario_gen.proofs.load.scenario_of.Goals as goal

pub returns-clause-text : goal.returns-clause-text
returns-clause-text c =
    whole c.args.rounds c.in_ok-text.text c.all_bits.new.text c.all_rounds.new.text c.all_ledgers.new.text c.extend.new.self (c.in_ok-text.ensures ∙ c.as_bytes.ensures.value ∙ c.ring_lines.ensures)
    (c.in_ok-all_bits.ensures {u = tt}) (c.in_ok-all_rounds.ensures {u = tt}) (c.in_ok-all_ledgers.ensures {u = tt}) (c.in_ok-extend.ensures {u = tt}).ok

pub returns-clause-read : goal.returns-clause-read
returns-clause-read c =
    let text : c.extend.new.self ≡ load_text c.args.rounds =
    whole c.args.rounds c.in_ok-text.text c.all_bits.new.text c.all_rounds.new.text c.all_ledgers.new.text c.extend.new.self (c.in_ok-text.ensures ∙ c.as_bytes.ensures.value ∙ c.ring_lines.ensures)
    (c.in_ok-all_bits.ensures {u = tt}) (c.in_ok-all_rounds.ensures {u = tt}) (c.in_ok-all_ledgers.ensures {u = tt}) (c.in_ok-extend.ensures {u = tt}).ok in
    ap meaning_of text ∙ load_is_read c.args.rounds c.requires.least c.requires.most
