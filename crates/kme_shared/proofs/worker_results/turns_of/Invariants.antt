use Rattle.std.proofs.Common.{◌≡◌, ◌≤◌, ◌+◌, ◌++◌, map, vec_len, vec_capacity}
use Rattle.kme_shared.proofs.worker_results.turns_of.Given as goal

abbrev pub invariant-loop-one : goal.invariant-loop-one
invariant-loop-one l = record {
  next : goal.iterator-loop-one.can_next l.one-iterator;
  finite : goal.iterator-loop-one.is_finite l.one-iterator;
  items : l.turns.items ++ map (λ r. r.turned) l.one-iterator.rest.items ≡ map (λ r. r.turned) l.fn.replied.items;
  room : vec_len l.turns + l.one-iterator.rest.len ≤ vec_capacity l.turns;
}
