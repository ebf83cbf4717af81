use Rattle.std.proofs.Common.{◌≡◌, ◌+◌, ◌-◌, ◌≤◌, length, drop}
use Rattle.report_parser.specs.Rows.{keys_from}
use Rattle.report_parser.proofs.rows.keys_reach.Given as goal

abbrev pub invariant-loop : goal.invariant-loop
invariant-loop l = record {
  reach : keys_from l.nodes (length l.text) l.text ≡ l.at + keys_from l.nodes (length l.text - l.counter) (drop l.at l.text);
  within : l.at ≤ length l.text;
}
