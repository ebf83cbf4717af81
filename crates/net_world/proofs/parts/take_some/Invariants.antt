use Rattle.std.proofs.Common.{◌≡◌, ◌+◌, ◌++◌, take, drop, vec_len, vec_capacity}
use Rattle.net_world.proofs.parts.take_some.Given as goal

abbrev pub invariant-loop : goal.invariant-loop
invariant-loop g l = record {
  items : l.into.items ≡ l.fn.into.items ++ take l.counter l.fn.from.items;
  rest : l.from.items ≡ drop l.counter l.fn.from.items;
  left : vec_len l.from + l.counter ≡ vec_len l.fn.from;
  taken : vec_len l.into ≡ vec_len l.fn.into + l.counter;
  room : vec_capacity l.into ≡ vec_capacity l.fn.into;
  kept : vec_capacity l.from ≡ vec_capacity l.fn.from;
}
