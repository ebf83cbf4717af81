use Rattle.std.proofs.Common.{◌≡◌, ◌≤◌, ◌+◌, ◌++◌, length, map, reverse, vec_len, vec_capacity}
use Rattle.std.specs.List.{flat_map}
use Rattle.block_run.proofs.seats.leave.Given as goal

abbrev pub invariant-loop : goal.invariant-loop
invariant-loop g l = record {
  turns : l.counter + vec_len l.seats ≡ l.end;
  passes : l.passes.items ++ reverse (map (λ s. s.pass) l.seats.items) ≡ reverse (map (λ s. s.pass) l.fn.seats.items);
  answers : l.answers.items ++ flat_map (λ s. s.answers.items) (reverse l.seats.items) ≡ flat_map (λ s. s.answers.items) (reverse l.fn.seats.items);
  room : vec_len l.passes + vec_len l.seats ≤ vec_capacity l.passes;
  kept : vec_capacity l.answers ≡ vec_capacity l.fn.answers;
}
