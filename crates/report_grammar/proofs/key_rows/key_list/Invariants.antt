use Rattle.std.proofs.Common.{◌≡◌, [], length}
use Rattle.report_grammar.specs.Words.{words_in}
use Rattle.report_grammar.specs.Rows.{keys_after}
use Rattle.report_grammar.proofs.key_rows.key_list.Given as goal

abbrev pub invariant-loop-name_word : goal.invariant-loop-name_word
invariant-loop-name_word l = keys_after l.keys (words_in l.left) ≡ keys_after [] (words_in l.rest)

abbrev pub decreases-loop-name_word : goal.decreases-loop-name_word
decreases-loop-name_word l = length l.left
