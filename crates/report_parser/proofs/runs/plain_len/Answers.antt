use Rattle.std.proofs.Common.{sym, arith, rules}
use Rattle.std.proofs.lemmas.List.Sums.{prefix_len_is}
use Rattle.report_parser.specs.Runs.{is_plain}
use Rattle.report_parser.proofs.runs.plain_len.Goals as goal

pub returns-then-not-is_plain-clause-count : goal.returns-then-not-is_plain-clause-count
returns-then-not-is_plain-clause-count c = sym (prefix_len_is is_plain c.args.text.now c.loop-place.place 0 (omega arith) c.loop-place.invariant (λ h. search rules))

pub returns-clause-count : goal.returns-clause-count
returns-clause-count c = sym (prefix_len_is is_plain c.args.text.now _ 0 (omega arith) (λ k h. c.loop-place.invariant k (omega arith)) (λ h. absurd (omega arith)))
