use Rattle.std.proofs.Common.{◌≡◌, ◌+◌, ◌≤◌, length, drop}
use Rattle.report_parser.specs.Runs.{common}
use Rattle.report_parser.proofs.runs.common.Given as goal

abbrev pub invariant-loop-place : goal.invariant-loop-place
invariant-loop-place l = record {
  same : common l.text l.other ≡ l.place + common (drop l.place l.text) (drop l.place l.other);
  within : l.place ≤ length l.other;
}
