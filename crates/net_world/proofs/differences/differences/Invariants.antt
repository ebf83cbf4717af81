use Rattle.std.proofs.Common.{◌≡◌, ◌+◌, ◌≤◌, drop}
use Rattle.net_world.specs.Veiled.{differences}
use Rattle.net_world.proofs.differences.differences.Given as goal

abbrev pub invariant-loop-place : goal.invariant-loop-place
invariant-loop-place l = record {
  so_far : l.count + differences (drop l.place l.a) (drop l.place l.b) ≡ differences l.a l.b;
  few : l.count ≤ l.place;
}
