use Rattle.std.proofs.Common.{◌≡◌, drop}
use Rattle.std.specs.Prelude.{max}
use Rattle.report_parser.specs.Runs.{greatest}
use Rattle.report_parser.proofs.runs.greatest.Given as goal

abbrev pub invariant-loop-number : goal.invariant-loop-number
invariant-loop-number l = max l.most (greatest (drop l.number-index l.numbers)) ≡ greatest l.numbers
