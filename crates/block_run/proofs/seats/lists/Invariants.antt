use Rattle.std.proofs.Common.{◌≡◌, ◌≤◌, [], All, vec_len, vec_capacity}
use Rattle.block_run.proofs.seats.lists.Given as goal

abbrev pub invariant-loop : goal.invariant-loop
invariant-loop g l = record {
  count : vec_len l.lists ≡ l.counter;
  empty : All (λ list. (list.items ≡ []) × (l.fn.each ≤ vec_capacity list)) l.lists.items;
}
