use Rattle.std.proofs.Common.{◌≡◌, ◌+◌, ◌≤◌, length, drop}
use Rattle.report_parser.specs.Runs.{pattern_fit}
use Rattle.report_parser.proofs.runs.pattern_fit.Given as goal

abbrev pub invariant-loop-place : goal.invariant-loop-place
invariant-loop-place l = record {
  same : pattern_fit l.pattern l.word ≡ l.place + pattern_fit (drop l.place l.pattern) (drop l.place l.word);
  within : l.place ≤ length l.word;
}
