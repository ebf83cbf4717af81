use Rattle.std.proofs.Common.{◌≡◌, ℕ, ◌<◌, get_or, true}
use Rattle.report_parser.specs.Runs.{is_figure}
use Rattle.report_parser.proofs.runs.figures_fit.Given as goal

abbrev pub invariant-loop-place : goal.invariant-loop-place
invariant-loop-place l = (k : ℕ) → k < l.place → is_figure (get_or l.word k 0) ≡ true
