use Rattle.std.proofs.Common.{ℕ, ◌+◌, ◌≤◌, List, ◌++◌, length}
use Rattle.run_types.specs.declared.item.NumberedItem.{NumberedItem}
use Rattle.scenario_text.specs.Text.{parts_of}
use Rattle.audit_text.specs.Input.{AreLinesOf, IsFirstNoLine}
use Rattle.audit_text.proofs.report.read_report.Given as goal

abbrev pub invariant-loop-line : goal.invariant-loop-line
invariant-loop-line l = record {
  are : (more : List NumberedItem) → AreLinesOf l.site l.left (parts_of l.rest) more → AreLinesOf l.site l.fn.left (parts_of l.text) (l.items ++ more);
  none : (n : ℕ) → IsFirstNoLine l.site l.left l.number (parts_of l.rest) n → IsFirstNoLine l.site l.fn.left l.first (parts_of l.text) n;
  within : l.number + length l.rest ≤ l.first + length l.text;
}

abbrev pub decreases-loop-line : goal.decreases-loop-line
decreases-loop-line l = length l.rest
