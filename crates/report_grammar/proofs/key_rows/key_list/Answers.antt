use Rattle.std.proofs.Common.{sym, ap, ◌∙◌}
use Rattle.std.specs.Option.{option_map}
use Rattle.report_grammar.specs.Words.{words_in}
use Rattle.report_grammar.proofs.Parts.{one_key}
use Rattle.report_grammar.proofs.key_rows.key_list.Goals as goal

pub loop-name_word-preserved : goal.loop-name_word-preserved
loop-name_word-preserved c =
    one_key c.loop-name_word.keys c.push.new.self (words_in c.loop-name_word.left.now) (words_in c.in-Some.behind_name.now) (words_in c.in_ok-hex.others.now) c.in-Some.name_word.now c.in_ok-hex.hex.now c.in_ok-name.name c.in_ok-octets.octets _
    c.in-Some.ensures.word (sym (ap (option_map _) c.in_ok-hex.ensures.ok_part) ∙ c.word-in-Some.ensures.word) (sym c.in_ok-name.ensures.ok_part ∙ c.name.ensures) c.in_ok-octets.ensures c.in_ok-push.ensures.ok c.loop-name_word.invariant
