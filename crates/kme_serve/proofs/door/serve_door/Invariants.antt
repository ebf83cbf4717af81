use Rattle.std.proofs.Common.{◌≡◌, ◌+◌, ◌*◌, ◌≤◌, Ok}
use Rattle.edge_io.specs.declared.failed.Failed.{Failed}
use Rattle.kme_serve.specs.Door.{IsDoorServed}
use Rattle.kme_serve.proofs.door.serve_door.Given as goal

abbrev pub invariant-visits : goal.invariant-visits
invariant-visits g l = record {
  few : l.served ≤ l.connections;
  fits : g.M.Managers.fits l.managers l.pass;
  budget : g.M.Managers.budget l.managers l.node l.fn.pass ≤ g.M.Managers.budget l.managers l.node l.pass + 1000 * l.served;
  accepted : g.D.Listener.accepted l.door ≡ g.D.Listener.accepted l.fn.door + l.served;
  finished : g.D.Listener.finished l.door ≡ g.D.Listener.finished l.fn.door + l.served;
  calm : g.D.Listener.faults l.door ≡ g.D.Listener.faults l.fn.door;
  visits : IsDoorServed l.api.nodes l.api.entitlements l.node (g.M.Managers.answers l.managers l.node) (g.M.Managers.seen l.managers l.node) {T = Unit {0}} {E = Failed} l.served
      (record { port = g.D.Listener.port l.fn.door; accepted = g.D.Listener.accepted l.fn.door; finished = g.D.Listener.finished l.fn.door; waiting = g.D.Listener.waiting l.fn.door; done = g.D.Listener.done l.fn.door })
      (record { port = g.D.Listener.port l.door; accepted = g.D.Listener.accepted l.door; finished = g.D.Listener.finished l.door; waiting = g.D.Listener.waiting l.door; done = g.D.Listener.done l.door })
      l.fn.pass l.pass (Ok tt);
}
