use Rattle.std.proofs.Common.{◌-◌, length, take, drop, refl}
use Rattle.report_grammar.proofs.Parts.{nothing_in, first_in}
use Rattle.report_grammar.proofs.words.word.Goals as goal

pub returns-in-empty-clause-word : goal.returns-in-empty-clause-word
returns-in-empty-clause-word c = rw (nothing_in c.args.text.now c.in-empty.len_below) refl

pub returns-in-len1-up-clause-word : goal.returns-in-len1-up-clause-word
returns-in-len1-up-clause-word c =
    let all = first_in c.args.text.now (take (length c.args.text.now - 1) (drop 1 c.args.text.now)) c.len_to-size.result c.in-len1-up.len_at_least refl c.len_to-size.ensures.count in
    rw (all, c.front.ensures, c.behind.ensures) refl
