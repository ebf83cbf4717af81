use Rattle.std.proofs.Common.{◌≡◌, ◌≤◌, ◌+◌, ◌++◌, vec_len, vec_capacity}
use Rattle.kme_shared.proofs.worker_results.move_replies.Given as goal

abbrev pub invariant-loop-replied : goal.invariant-loop-replied
invariant-loop-replied l = record {
  next : goal.iterator-loop-replied.can_next l.replied-iterator;
  finite : goal.iterator-loop-replied.is_finite l.replied-iterator;
  items : l.into.items ++ l.replied-iterator.rest.items ≡ l.fn.into.items ++ l.fn.from.items;
  room : vec_len l.into + l.replied-iterator.rest.len ≤ vec_capacity l.into;
  kept : vec_capacity l.into ≡ vec_capacity l.fn.into;
}
