use Rattle.std.proofs.Common.{◌≡◌, ◌≤◌, ◌+◌, ◌++◌, vec_len, vec_capacity}
use Rattle.net_world.proofs.parts.put_all.Given as goal

abbrev pub invariant-loop : goal.invariant-loop
invariant-loop g l = record {
  turns : l.counter + vec_len l.from ≡ l.end;
  items : l.from.items ++ l.into.items ≡ l.fn.from.items ++ l.fn.into.items;
  room : vec_len l.from + vec_len l.into ≤ vec_capacity l.into;
}
