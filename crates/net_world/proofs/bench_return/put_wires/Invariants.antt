use Rattle.std.proofs.Common.{◌≡◌, ◌≤◌, ◌+◌, ◌++◌, map, vec_len, vec_capacity}
use Rattle.net_world.proofs.bench_return.put_wires.Given as goal

abbrev pub invariant-loop : goal.invariant-loop
invariant-loop g l = record {
  turns : l.counter + vec_len l.lanes ≡ l.end;
  wires : map (λ side. side.wire) l.lanes.items ++ l.wires.items ≡ map (λ side. side.wire) l.fn.lanes.items ++ l.fn.wires.items;
  room : vec_len l.lanes + vec_len l.wires ≤ vec_capacity l.wires;
}
