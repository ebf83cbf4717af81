use Rattle.std.proofs.Common.{◌≡◌, ◌≤◌, [], All, vec_len, vec_capacity}
use Rattle.shared_objects.proofs.rooms.rows.Given as goal

abbrev pub invariant-loop : goal.invariant-loop
invariant-loop g l = record {
  count : vec_len l.rows ≡ l.counter;
  empty : All (λ row. (row.items ≡ []) × (l.fn.each ≤ vec_capacity row)) l.rows.items;
}
