use Rattle.std.proofs.Common.{◌≡◌, ℕ, ◌++◌, List, drop, Some}
use Rattle.std.specs.Prelude.{slice_get}
use Rattle.std.specs.Ordering.{nat_cmp}
use Rattle.std.specs.BTreeMap.{get}
use Rattle.run_types.specs.declared.line.Line.{Line}
use Rattle.run_types.specs.declared.entry.Entry.{Entry}
use Rattle.run_types.specs.declared.entry.Entry.TheVariants.{Block}
use Rattle.whole_audit.specs.Kept.{found_or}
use Rattle.whole_audit.proofs.lines.add_lines.Given as goal

-- The table so far and the lines still to be added give the same lines as the first table and all lines.
abbrev pub invariant-loop-place : goal.invariant-loop-place
invariant-loop-place l = (es : List Entry) → slice_get es l.entry ≡ Some (Block l.lines) → (number : ℕ) (behind : List Line) →
    found_or es (get nat_cmp l.spots number) number (drop l.place l.lines ++ behind) ≡ found_or es (get nat_cmp l.initial.spots number) number (l.lines ++ behind)
