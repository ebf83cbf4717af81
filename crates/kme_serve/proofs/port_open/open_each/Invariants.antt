use Rattle.std.proofs.Common.{◌≡◌, ◌+◌, ◌≤◌, ℕ, vec_len, vec_capacity}
use Rattle.std.specs.Prelude.{IsSome, Some, slice_get}
use Rattle.edge_io.specs.Writes.{Adds}
use Rattle.kme_serve.specs.Doors.{HaveFirstQueues, IsNew, ports_from, telling}
use Rattle.kme_serve.proofs.port_open.open_each.Given as goal

abbrev pub invariant-loop-n : goal.invariant-loop-n
invariant-loop-n g l = record {
  long : vec_len l.doors ≡ l.n;
  new : (k : ℕ) (d : _) → slice_get l.doors.items k ≡ Some d →
      IsNew (telling g.P.Door.Listener.port g.P.Door.Listener.accepted g.P.Door.Listener.finished g.P.Door.Listener.waiting g.P.Door.Listener.done) g.P.Door.Listener.faults
      (IsSome (g.P.Ports.asked l.fn.ports)) (l.port + k) d;
  waiting : (other : ℕ) → l.port + l.n ≤ other → g.P.Ports.queues l.ports other ≡ g.P.Ports.queues l.fn.ports other;
  queued : HaveFirstQueues (telling g.P.Door.Listener.port g.P.Door.Listener.accepted g.P.Door.Listener.finished g.P.Door.Listener.waiting g.P.Door.Listener.done) g.P.Door.Listener.twins (g.P.Ports.queues l.fn.ports) l.port l.doors.items;
  asked : Adds (g.P.Ports.asked l.fn.ports) (g.P.Ports.asked l.ports) (ports_from l.port l.n);
  calm : g.P.Ports.faults l.ports ≡ g.P.Ports.faults l.fn.ports;
  same : g.P.Ports.back l.ports ≡ g.P.Ports.back l.fn.ports;
  space : vec_capacity l.doors ≡ vec_capacity l.fn.doors;
}
