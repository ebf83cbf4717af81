use Rattle.std.proofs.Common.{◌≡◌, ◌++◌, List, length}
use Rattle.edge_io.specs.Writes.{Adds}
use Rattle.kme_serve.specs.Doors.{HasRoom}
use Rattle.kme_serve.proofs.doors.shut_doors.Given as goal

abbrev pub invariant-loop-door : goal.invariant-loop-door
invariant-loop-door g l = record {
  next : (goal.iterator-loop-door g).can_next l.door-iterator;
  finite : (goal.iterator-loop-door g).is_finite l.door-iterator;
  room : HasRoom g.P.Ports.back l.ports (length l.door-iterator.rest.items);
  back : (xs : List _) × Adds (g.P.Ports.back l.fn.ports) (g.P.Ports.back l.ports) xs × (xs ++ l.door-iterator.rest.items ≡ l.fn.doors.items);
  same : (g.P.Ports.asked l.ports ≡ g.P.Ports.asked l.fn.ports) × (g.P.Ports.faults l.ports ≡ g.P.Ports.faults l.fn.ports);
}
