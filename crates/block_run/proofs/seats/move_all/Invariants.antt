use Rattle.std.proofs.Common.{◌≡◌, ◌≤◌, ◌+◌, ◌++◌, vec_len, vec_capacity}
use Rattle.block_run.proofs.seats.move_all.Given as goal

abbrev pub invariant-loop-item : goal.invariant-loop-item
invariant-loop-item g l = record {
  next : (goal.iterator-loop-item g).can_next l.item-iterator;
  finite : (goal.iterator-loop-item g).is_finite l.item-iterator;
  items : l.into.items ++ l.item-iterator.rest.items ≡ l.fn.into.items ++ l.fn.from.items;
  room : vec_len l.into + l.item-iterator.rest.len ≤ vec_capacity l.into;
  kept : vec_capacity l.into ≡ vec_capacity l.fn.into;
}
