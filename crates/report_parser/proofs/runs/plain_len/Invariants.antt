use Rattle.std.proofs.Common.{◌≡◌, ℕ, ◌<◌, get_or, true}
use Rattle.report_parser.specs.Runs.{is_plain}
use Rattle.report_parser.proofs.runs.plain_len.Given as goal

abbrev pub invariant-loop-place : goal.invariant-loop-place
invariant-loop-place l = (k : ℕ) → k < l.place → is_plain (get_or l.text k 0) ≡ true
