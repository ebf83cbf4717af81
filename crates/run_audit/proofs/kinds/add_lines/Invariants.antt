use Rattle.std.proofs.Common.{◌≡◌, ℕ, ◌++◌, List, map, drop}
use Rattle.std.specs.Ordering.{nat_cmp}
use Rattle.std.specs.BTreeMap.{get}
use Rattle.run_audit.specs.declared.line_kind.LineKind.{LineKind}
use Rattle.run_audit.specs.Kinds.{kind_of_line}
use Rattle.run_audit.specs.Kept.{found_or}
use Rattle.run_audit.proofs.kinds.add_lines.Given as goal

-- The table so far and the lines still to be added give the same kinds as the first table and all lines.
abbrev pub invariant-loop-line : goal.invariant-loop-line
invariant-loop-line l = (number : ℕ) (behind : List (ℕ × LineKind)) →
    found_or (get nat_cmp l.kinds number) number (map kind_of_line (drop l.line-index l.lines) ++ behind) ≡ found_or (get nat_cmp l.initial.kinds number) number (map kind_of_line l.lines ++ behind)
