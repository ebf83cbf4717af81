use Rattle.std.proofs.Common.{◌≡◌, ◌≤◌, ◌+◌, vec_len, vec_capacity}
use Rattle.std.specs.List.{AllZip}
use Rattle.turnstile.specs.Turns.{turn_of}
use Rattle.shared_objects.specs.Seats.{HoldsAll}
use Rattle.shared_objects.proofs.Closing.{SoFar}
use Rattle.shared_objects.proofs.gates.close_all.Given as goal

abbrev pub invariant-loop : goal.invariant-loop
invariant-loop g l = record {
  turns : l.counter + vec_len l.turnstiles ≡ l.end;
  whole : AllZip HoldsAll l.turnstiles.items l.kept.items;
  far : SoFar (turn_of g.M.Machine.charter g.M.Machine.takes g.M.Machine.turns) l.fn.turnstiles.items l.fn.kept.items l.fn.machines.items l.turnstiles.items l.kept.items l.machines.items;
  room : vec_len l.machines + vec_len l.turnstiles ≤ vec_capacity l.machines;
}
