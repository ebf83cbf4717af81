use Rattle.std.proofs.Common.{◌≡◌, ◌+◌, ◌≤◌, ℕ, ◌∷◌, [], ◌∙◌, length, sym, ap, subst, refl, arith}
use Rattle.std.specs.Prelude.{IsSome}
use Rattle.std.proofs.lemmas.Result.{err_from_is_err_and}
use Rattle.edge_io.specs.Connections.{IsFirstQueue}
use Rattle.edge_io.specs.Writes.{Adds}
use Rattle.qkd_base.specs.Faults.{Rose}
use Rattle.kme_serve.specs.Doors.{Queues, ports_from, telling, IsNew}
use Rattle.kme_serve.proofs.Rooms.{length-ports, next_port, adds_none, adds_more, still_told, few, room_more}
use Rattle.kme_serve.proofs.Listeners.{no_doors, next_door, told_too}
use Rattle.kme_serve.proofs.Queues.{no_queues, next_first}
use Rattle.kme_serve.proofs.port_open.open_each.Goals as goal

pub loop-n-init : goal.loop-n-init
loop-n-init g c = record {
  long = c.args.doors.now.ok.0 ∙ ap length c.requires.none;
  new = no_doors (telling g.P.Door.Listener.port g.P.Door.Listener.accepted g.P.Door.Listener.finished g.P.Door.Listener.waiting g.P.Door.Listener.done) g.P.Door.Listener.faults (IsSome (g.P.Ports.asked c.args.ports.now)) c.args.port c.args.doors.now.items c.requires.none;
  waiting = λ other from. refl;
  queued = no_queues (telling g.P.Door.Listener.port g.P.Door.Listener.accepted g.P.Door.Listener.finished g.P.Door.Listener.waiting g.P.Door.Listener.done) g.P.Door.Listener.twins (g.P.Ports.queues c.args.ports.now) c.args.port c.args.doors.now.items c.requires.none;
  asked = adds_none (g.P.Ports.asked c.args.ports.now);
  calm = refl;
  same = refl;
  space = refl;
}

pub open-requires : goal.open-requires
open-requires g c =
    let long = length-ports c.args.port c.loop-n.n in
    let fits : length (ports_from c.args.port c.loop-n.n) + 1 ≤ c.args.many = omega (arith, long, c.loop-n-test.true) in
    record { few = few g.P.Ports.asked c.loop-n.ports 1 (room_more g.P.Ports.asked c.args.ports.now c.loop-n.ports (ports_from c.args.port c.loop-n.n) c.args.many 1 c.requires.asked c.loop-n.invariant.asked fits) (omega arith) }

pub returns-in_err-door-clause-new : goal.returns-in_err-door-clause-new
returns-in_err-door-clause-new g c = c.loop-n.invariant.new

pub returns-in_err-door-clause-queued : goal.returns-in_err-door-clause-queued
returns-in_err-door-clause-queued g c = c.loop-n.invariant.queued

pub returns-in_err-door-clause-asked : goal.returns-in_err-door-clause-asked
returns-in_err-door-clause-asked g c =
    let p = err_from_is_err_and c.from_residual.result c.from_residual.ensures.1 in
    let long : length c.loop-n.doors.items ≡ c.loop-n.n = sym c.loop-n.doors.ok.0 ∙ c.loop-n.invariant.long in
    rw p.1 (
      omega (arith, long, c.loop-n-test.true),
      subst (λ (n : ℕ). Adds (g.P.Ports.asked c.args.ports.now) (g.P.Ports.asked c.open.new.self) (ports_from c.args.port (n + 1))) (sym long)
          (adds_more (g.P.Ports.asked c.args.ports.now) (g.P.Ports.asked c.loop-n.ports) (g.P.Ports.asked c.open.new.self) (ports_from c.args.port c.loop-n.n) ((c.args.port + c.loop-n.n) ∷ []) (ports_from c.args.port (c.loop-n.n + 1))
          c.loop-n.invariant.asked c.open.ensures.asked (next_port c.args.port c.loop-n.n)),
      subst (λ (n : ℕ). Rose n (g.P.Ports.faults c.open.new.self)) c.loop-n.invariant.calm c.in_err-door.ensures.cause.failed,
    )

pub returns-in_err-door-clause-same : goal.returns-in_err-door-clause-same
returns-in_err-door-clause-same g c = c.open.ensures.same ∙ c.loop-n.invariant.same

pub push_reserved-requires : goal.push_reserved-requires
push_reserved-requires g c = omega (arith, c.loop-n.invariant.long, c.loop-n.invariant.space, c.requires.space, c.loop-n-test.true)

pub loop-n-preserved : goal.loop-n-preserved
loop-n-preserved g c = record {
  long = omega (arith, c.push_reserved.ensures.len, c.loop-n.invariant.long);
  new = next_door (telling g.P.Door.Listener.port g.P.Door.Listener.accepted g.P.Door.Listener.finished g.P.Door.Listener.waiting g.P.Door.Listener.done) g.P.Door.Listener.faults (IsSome (g.P.Ports.asked c.args.ports.now)) c.args.port c.loop-n.doors.items c.push_reserved.new.self.items c.in_ok-door.door c.push_reserved.ensures.items
      c.loop-n.invariant.new
      (subst (λ (n : ℕ). IsNew (telling g.P.Door.Listener.port g.P.Door.Listener.accepted g.P.Door.Listener.finished g.P.Door.Listener.waiting g.P.Door.Listener.done) g.P.Door.Listener.faults (IsSome (g.P.Ports.asked c.args.ports.now)) (c.args.port + n) c.in_ok-door.door) (sym c.loop-n.invariant.long ∙ c.loop-n.doors.ok.0)
      (told_too (telling g.P.Door.Listener.port g.P.Door.Listener.accepted g.P.Door.Listener.finished g.P.Door.Listener.waiting g.P.Door.Listener.done) g.P.Door.Listener.faults (IsSome (g.P.Ports.asked c.args.ports.now)) (IsSome (g.P.Ports.asked c.loop-n.ports)) (c.args.port + c.loop-n.n) c.in_ok-door.door
      (still_told (g.P.Ports.asked c.args.ports.now) (g.P.Ports.asked c.loop-n.ports) (ports_from c.args.port c.loop-n.n) c.loop-n.invariant.asked) c.in_ok-door.ensures.door));
  asked = adds_more (g.P.Ports.asked c.args.ports.now) (g.P.Ports.asked c.loop-n.ports) (g.P.Ports.asked c.open.new.self) (ports_from c.args.port c.loop-n.n) ((c.args.port + c.loop-n.n) ∷ []) (ports_from c.args.port (c.loop-n.n + 1))
      c.loop-n.invariant.asked c.open.ensures.asked (next_port c.args.port c.loop-n.n);
  waiting = λ other from. c.open.ensures.others other (λ same. omega (arith, from, same)) ∙ c.loop-n.invariant.waiting other (omega (arith, from));
  queued = next_first (telling g.P.Door.Listener.port g.P.Door.Listener.accepted g.P.Door.Listener.finished g.P.Door.Listener.waiting g.P.Door.Listener.done) g.P.Door.Listener.twins (g.P.Ports.queues c.args.ports.now) c.args.port c.loop-n.doors.items c.push_reserved.new.self.items c.in_ok-door.door c.push_reserved.ensures.items
      c.loop-n.invariant.queued
      (subst (λ (n : ℕ). IsFirstQueue (g.P.Ports.queues c.args.ports.now (c.args.port + n)) (g.P.Door.Listener.waiting c.in_ok-door.door) (g.P.Door.Listener.twins c.in_ok-door.door)) (sym c.loop-n.invariant.long ∙ c.loop-n.doors.ok.0)
      (subst (λ (told : Queues). IsFirstQueue told (g.P.Door.Listener.waiting c.in_ok-door.door) (g.P.Door.Listener.twins c.in_ok-door.door))
      (c.loop-n.invariant.waiting (c.args.port + c.loop-n.n) (omega arith)) c.in_ok-door.ensures.queue));
  calm = c.in_ok-door.ensures.calm ∙ c.loop-n.invariant.calm;
  same = c.open.ensures.same ∙ c.loop-n.invariant.same;
  space = c.push_reserved.ensures.capacity ∙ c.loop-n.invariant.space;
}

pub returns-clause-new : goal.returns-clause-new
returns-clause-new g c = c.loop-n.invariant.new

pub returns-clause-queued : goal.returns-clause-queued
returns-clause-queued g c = c.loop-n.invariant.queued

pub returns-clause-asked : goal.returns-clause-asked
returns-clause-asked g c =
    let all : c.loop-n.n ≡ c.args.many = omega (arith, c.loop-n-test.false, c.loop-n.auto.n-end) in (
      sym c.loop-n.doors.ok.0 ∙ c.loop-n.invariant.long ∙ all,
      subst (λ (n : ℕ). Adds (g.P.Ports.asked c.args.ports.now) (g.P.Ports.asked c.loop-n.ports) (ports_from c.args.port n)) all c.loop-n.invariant.asked,
      c.loop-n.invariant.calm,
    )

pub returns-clause-same : goal.returns-clause-same
returns-clause-same g c = c.loop-n.invariant.same
