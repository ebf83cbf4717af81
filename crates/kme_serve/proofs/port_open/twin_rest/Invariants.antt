use Rattle.std.proofs.Common.{◌≡◌, ◌≤◌, ℕ, List, vec_len, vec_capacity}
use Rattle.std.specs.Prelude.{IsSome, Option}
use Rattle.kme_serve.specs.Doors.{Queues, AreNew, AreQueued, HaveFirstQueues, telling}
use Rattle.kme_serve.proofs.Queues.{AreLeft}
use Rattle.kme_serve.proofs.port_open.twin_rest.Given as goal

abbrev pub invariant-loop-place : goal.invariant-loop-place
invariant-loop-place g l = record {
  long : vec_len l.doors ≡ l.place;
  grown : vec_len l.fn.doors ≤ vec_len l.doors;
  new : (asked : Option (List ℕ)) (port : ℕ) →
      AreNew (telling g.D.Listener.port g.D.Listener.accepted g.D.Listener.finished g.D.Listener.waiting g.D.Listener.done) g.D.Listener.faults (IsSome asked) port l.nodes l.fn.doors.items →
      AreNew (telling g.D.Listener.port g.D.Listener.accepted g.D.Listener.finished g.D.Listener.waiting g.D.Listener.done) g.D.Listener.faults (IsSome asked) port l.nodes l.doors.items;
  queued : (queues : ℕ → Queues) (port : ℕ) → HaveFirstQueues (telling g.D.Listener.port g.D.Listener.accepted g.D.Listener.finished g.D.Listener.waiting g.D.Listener.done) g.D.Listener.twins queues port l.fn.doors.items →
      AreQueued (telling g.D.Listener.port g.D.Listener.accepted g.D.Listener.finished g.D.Listener.waiting g.D.Listener.done) queues port l.nodes l.doors.items × AreLeft (telling g.D.Listener.port g.D.Listener.accepted g.D.Listener.finished g.D.Listener.waiting g.D.Listener.done) g.D.Listener.twins queues port l.nodes l.place l.doors.items;
  space : vec_capacity l.doors ≡ vec_capacity l.fn.doors;
}
