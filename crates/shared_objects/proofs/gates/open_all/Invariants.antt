use Rattle.std.proofs.Common.{◌≡◌, ◌≤◌, ◌+◌, ◌++◌, map, reverse, vec_len, vec_capacity}
use Rattle.std.specs.List.{AllZip}
use Rattle.turnstile.specs.Names.{opening}
use Rattle.shared_objects.specs.Seats.{IsOpened}
use Rattle.shared_objects.proofs.gates.open_all.Given as goal

abbrev pub invariant-loop-place : goal.invariant-loop-place
invariant-loop-place g l = record {
  turns : l.place + vec_len l.machines ≡ l.place-end;
  opened : AllZip (IsOpened l.fn.calls) l.turnstiles.items l.kept.items;
  machines : map opening l.turnstiles.items ++ reverse l.machines.items ≡ reverse l.fn.machines.items;
  room : vec_capacity l.machines ≡ vec_capacity l.fn.machines;
  spare : vec_len l.turnstiles + vec_len l.machines ≤ vec_capacity l.turnstiles;
  seats : vec_len l.kept + vec_len l.machines ≤ vec_capacity l.kept;
  filled : vec_len l.machines ≤ vec_capacity l.machines;
}
