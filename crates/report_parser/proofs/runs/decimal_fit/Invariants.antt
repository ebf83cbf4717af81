use Rattle.std.proofs.Common.{◌≡◌, ◌+◌, ◌≤◌, drop, eqb}
use Rattle.report_parser.specs.Runs.{decimal_on, decimal_fit}
use Rattle.report_parser.proofs.runs.decimal_fit.Given as goal

abbrev pub invariant-loop-place : goal.invariant-loop-place
invariant-loop-place l = record {
  same : decimal_fit l.most l.word ≡ l.place + decimal_on l.most l.value (eqb l.place 0) (drop l.place l.word);
  small : l.value ≤ l.most;
}
