use Rattle.std.proofs.Common.{◌≡◌, ℕ, ◌++◌, List, drop}
use Rattle.std.specs.List.{flat_map}
use Rattle.std.specs.Ordering.{nat_cmp}
use Rattle.std.specs.BTreeMap.{get}
use Rattle.run_audit.specs.declared.line_kind.LineKind.{LineKind}
use Rattle.run_audit.specs.Kinds.{kinds_of}
use Rattle.run_audit.specs.Kept.{found_or}
use Rattle.run_audit.proofs.kinds.add_entries.Given as goal

-- The table so far and the lines still to be added give the same kinds as the first table and all lines.
abbrev pub invariant-loop-entry : goal.invariant-loop-entry
invariant-loop-entry l = (number : ℕ) (behind : List (ℕ × LineKind)) →
    found_or (get nat_cmp l.kinds number) number (flat_map kinds_of (drop l.entry-index l.entries) ++ behind) ≡ found_or (get nat_cmp l.initial.kinds number) number (flat_map kinds_of l.entries ++ behind)
