use Rattle.std.proofs.Common.{◌≡◌, ◌≤◌, ◌+◌, length}
use Rattle.scenario_text.specs.Text.{parts_of}
use Rattle.scenario_check.specs.Check.{checked_from, checked_of}
use Rattle.scenario_check.proofs.check.check_parts.Given as goal

abbrev pub invariant-loop-line : goal.invariant-loop-line
invariant-loop-line l = record {
  so_far : checked_from l.left l.number l.reading l.found (parts_of l.rest) ≡ checked_of l.octets;
  number : l.number + length l.rest ≤ length l.octets + 1;
}

abbrev pub decreases-loop-line : goal.decreases-loop-line
decreases-loop-line l = length l.rest
