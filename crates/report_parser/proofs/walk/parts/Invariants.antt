use Rattle.std.proofs.Common.{◌≡◌, ℕ, ◌+◌, ◌≤◌, List, length, drop}
use Rattle.report_parser.specs.Walk.{parts_reach}
use Rattle.report_parser.proofs.walk.parts.Given as goal

abbrev pub invariant-loop-part : goal.invariant-loop-part
invariant-loop-part l = record {
  reach : (behind : List ℕ → ℕ) → parts_reach l.nodes l.parts behind l.text ≡ l.at + parts_reach l.nodes (drop l.part-index l.parts) behind (drop l.at l.text);
  within : l.at ≤ length l.text;
}
