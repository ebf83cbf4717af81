use Rattle.std.proofs.Common.{◌≡◌, ℕ, ◌++◌, List, drop}
use Rattle.std.specs.List.{flat_map}
use Rattle.std.specs.Ordering.{nat_cmp}
use Rattle.std.specs.BTreeMap.{get}
use Rattle.run_types.specs.declared.line.Line.{Line}
use Rattle.whole_audit.specs.Lines.{lines_in}
use Rattle.whole_audit.specs.Kept.{found_or}
use Rattle.whole_audit.proofs.lines.add_entries.Given as goal

-- The table so far and the lines still to be added give the same lines as the first table and all lines.
abbrev pub invariant-loop-place : goal.invariant-loop-place
invariant-loop-place l = (number : ℕ) (behind : List Line) →
    found_or l.entries (get nat_cmp l.spots number) number (flat_map lines_in (drop l.place l.entries) ++ behind) ≡ found_or l.entries (get nat_cmp l.initial.spots number) number (flat_map lines_in l.entries ++ behind)
