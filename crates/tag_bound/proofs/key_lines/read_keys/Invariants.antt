use Rattle.std.proofs.Common.{◌≡◌, ◌≤◌, length}
use Rattle.std.specs.BTreeSet.{contains}
use Rattle.std.specs.Ordering.{nat_cmp}
use Rattle.std.specs.Str.Lines.{lines}
use Rattle.tag_bound.specs.KeyLines.{keys_from, keys_of, IsSeen}
use Rattle.tag_bound.proofs.key_lines.read_keys.Given as goal

abbrev pub invariant-loop-line : goal.invariant-loop-line
invariant-loop-line l = record {
  so_far : keys_from l.keys (lines l.rest) ≡ keys_of l.text;
  seen : IsSeen (contains nat_cmp l.seen) l.keys;
  few : length l.keys ≤ 10000;
  within : length l.rest ≤ length l.text;
}

abbrev pub decreases-loop-line : goal.decreases-loop-line
decreases-loop-line l = length l.rest
