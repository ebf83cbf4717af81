use Rattle.std.proofs.Common.{◌≡◌, ◌≤◌, ◌+◌, ℕ, ◌++◌, [], All, map, reverse, vec_len, vec_capacity}
use Rattle.block_run.proofs.seats.sit.Given as goal

abbrev pub invariant-loop : goal.invariant-loop
invariant-loop g l = record {
  lists : vec_len l.lists ≡ vec_len l.passes;
  turns : l.counter + vec_len l.passes ≡ l.end;
  seats : map (λ s. s.pass) l.seats.items ++ reverse l.passes.items ≡ reverse l.fn.passes.items;
  room : vec_len l.seats + vec_len l.passes ≤ vec_capacity l.seats;
  kept : vec_capacity l.passes ≡ vec_capacity l.fn.passes;
  empty : (each : ℕ) → All (λ list. (list.items ≡ []) × (each ≤ vec_capacity list)) l.fn.lists.items →
      All (λ list. (list.items ≡ []) × (each ≤ vec_capacity list)) l.lists.items × All (λ s. (s.answers.items ≡ []) × (each ≤ vec_capacity s.answers)) l.seats.items;
}
