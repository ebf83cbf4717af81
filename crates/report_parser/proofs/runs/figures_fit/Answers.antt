use Rattle.std.proofs.Common.{sym, arith, rules}
use Rattle.std.proofs.lemmas.List.Sums.{prefix_len_is}
use Rattle.report_parser.specs.Runs.{is_figure}
use Rattle.report_parser.proofs.runs.figures_fit.Goals as goal

pub returns-then-not-is_figure : goal.returns-then-not-is_figure
returns-then-not-is_figure c = sym (prefix_len_is is_figure c.args.word.now c.loop-place.place 0 (omega arith) c.loop-place.invariant (λ h. search rules))

pub returns : goal.returns
returns c = sym (prefix_len_is is_figure c.args.word.now _ 0 (omega arith) (λ k h. c.loop-place.invariant k (omega arith)) (λ h. absurd (omega arith)))
