use Rattle.std.proofs.Common.{◌≡◌, ℕ, ◌++◌, List, map, drop}
use Rattle.std.specs.Ordering.{nat_cmp}
use Rattle.std.specs.BTreeMap.{get}
use Rattle.run_audit.specs.declared.line_kind.LineKind.{LineKind}
use Rattle.run_audit.specs.declared.line_kind.LineKind.TheVariants.{Node}
use Rattle.run_audit.specs.Kept.{found_or}
use Rattle.run_audit.proofs.kinds.add_nodes.Given as goal

-- The table so far and the lines still to be added give the same kinds as the first table and all lines.
abbrev pub invariant-loop-number : goal.invariant-loop-number
invariant-loop-number l = (number : ℕ) (behind : List (ℕ × LineKind)) →
    found_or (get nat_cmp l.kinds number) number (map (λ n. (n, Node)) (drop l.number-index l.numbers) ++ behind) ≡ found_or (get nat_cmp l.initial.kinds number) number (map (λ n. (n, Node)) l.numbers ++ behind)
