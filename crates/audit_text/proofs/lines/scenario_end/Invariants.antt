use Rattle.std.proofs.Common.{◌≡◌, ◌≤◌, ◌+◌, length}
use Rattle.scenario_text.specs.Text.{parts_of}
use Rattle.audit_text.specs.Input.{octets_to_end, lines_to_end}
use Rattle.audit_text.proofs.lines.scenario_end.Given as goal

abbrev pub invariant-loop-line : goal.invariant-loop-line
invariant-loop-line l = record {
  octets : length l.text + octets_to_end (parts_of l.rest) ≡ octets_to_end (parts_of l.text) + length l.rest;
  count : l.lines + lines_to_end (parts_of l.rest) ≡ lines_to_end (parts_of l.text);
  within : l.lines + length l.rest ≤ length l.text;
}

abbrev pub decreases-loop-line : goal.decreases-loop-line
decreases-loop-line l = length l.rest
