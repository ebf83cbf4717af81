use Rattle.std.proofs.Common.{◌≡◌, ◌≤◌, ◌+◌, length}
use Rattle.scenario_text.specs.Text.{parts_from, parts_of, meaning_of}
use Rattle.scenario_text.proofs.scenario.read_parts.Given as goal

abbrev pub invariant-loop-line : goal.invariant-loop-line
invariant-loop-line l = record {
  so_far : parts_from l.left l.number l.reading (parts_of l.rest) ≡ meaning_of l.bytes;
  number : l.number + length l.rest ≤ length l.bytes + 1;
}

abbrev pub decreases-loop-line : goal.decreases-loop-line
decreases-loop-line l = length l.rest
