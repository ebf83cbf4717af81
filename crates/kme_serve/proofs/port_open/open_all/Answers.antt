use Rattle.std.proofs.Common.{◌≡◌, ◌+◌, ◌∙◌, ℕ, List, min, length, sym, subst, inl, arith}
use Rattle.std.specs.Prelude.{IsSome, IfOk}
use Rattle.std.proofs.lemmas.List.{take_all}
use Rattle.edge_io.specs.Writes.{Adds}
use Rattle.kme_serve.specs.Doors.{ports_from, ports_of, telling}
use Rattle.kme_serve.proofs.Rooms.{length-ports, first_ports, room_less}
use Rattle.kme_serve.proofs.Listeners.{of_nodes, new_unused, either, came, blamed}
use Rattle.kme_serve.proofs.port_open.open_all.Goals as goal

pub open_each-requires-clause-asked : goal.open_each-requires-clause-asked
open_each-requires-clause-asked g c = room_less g.P.Ports.asked c.args.ports.now c.args.workers c.min.result c.requires.asked (omega (arith, c.min.ensures))

pub twin_rest-requires-clause-first : goal.twin_rest-requires-clause-first
twin_rest-requires-clause-first g c = c.open_each.new.doors.ok.0 ∙ c.in-Ok.ensures.asked.0 ∙ c.min.ensures

pub returns-in-Ok-clause-came : goal.returns-in-Ok-clause-came
returns-in-Ok-clause-came g c =
    came (telling g.P.Door.Listener.port g.P.Door.Listener.accepted g.P.Door.Listener.finished g.P.Door.Listener.waiting g.P.Door.Listener.done) g.P.Door.Listener.faults (IsSome (g.P.Ports.asked c.args.ports.now)) c.args.port c.args.workers c.args.nodes c.twin_rest.new.doors.items (g.P.Ports.queues c.args.ports.now) c.twin_rest.result
    (c.twin_rest.ensures.came (g.P.Ports.asked c.args.ports.now) c.args.port
    (of_nodes (telling g.P.Door.Listener.port g.P.Door.Listener.accepted g.P.Door.Listener.finished g.P.Door.Listener.waiting g.P.Door.Listener.done) g.P.Door.Listener.faults (IsSome (g.P.Ports.asked c.args.ports.now)) c.args.port c.args.nodes c.open_each.new.doors.items (omega (arith, c.in-Ok.ensures.asked.0, c.min.ensures)) c.open_each.ensures.new))
    (c.twin_rest.ensures.queued (g.P.Ports.queues c.args.ports.now) c.args.port c.open_each.ensures.queued)
    (subst (λ (n : ℕ). IfOk c.twin_rest.result (λ _. n ≡ c.args.workers)) c.twin_rest.new.doors.ok.0 c.twin_rest.ensures.all) (omega (arith, c.twin_rest.ensures.some, c.twin_rest.new.doors.ok.0))

pub returns-in-Ok-clause-asked : goal.returns-in-Ok-clause-asked
returns-in-Ok-clause-asked g c =
    let many = c.min.ensures in
    let all : Adds (g.P.Ports.asked c.args.ports.now) (g.P.Ports.asked c.open_each.new.ports) (ports_of c.args.port c.args.workers c.args.nodes) =
    subst (λ (n : ℕ). Adds (g.P.Ports.asked c.args.ports.now) (g.P.Ports.asked c.open_each.new.ports) (ports_from c.args.port n)) many c.in-Ok.ensures.asked.1 in
    let long = length-ports c.args.port (min c.args.workers c.args.nodes) in
    either c.twin_rest.result all
    (subst (λ (ports : List ℕ). Adds (g.P.Ports.asked c.args.ports.now) (g.P.Ports.asked c.open_each.new.ports) ports)
    (sym (take_all (length c.twin_rest.new.doors.items + 1) (ports_of c.args.port c.args.workers c.args.nodes)
    (omega (arith, long, c.twin_rest.ensures.some, c.twin_rest.new.doors.ok.0, c.open_each.new.doors.ok.0, c.in-Ok.ensures.asked.0, many))))
    all)

pub returns-in-Ok-clause-faults : goal.returns-in-Ok-clause-faults
returns-in-Ok-clause-faults g c =
    blamed (telling g.P.Door.Listener.port g.P.Door.Listener.accepted g.P.Door.Listener.finished g.P.Door.Listener.waiting g.P.Door.Listener.done) g.P.Door.Listener.faults (IsSome (g.P.Ports.asked c.args.ports.now)) c.args.port c.args.workers c.args.nodes c.twin_rest.new.doors.items (g.P.Ports.faults c.args.ports.now) (g.P.Ports.faults c.open_each.new.ports) c.twin_rest.result
    (c.twin_rest.ensures.came (g.P.Ports.asked c.args.ports.now) c.args.port
    (of_nodes (telling g.P.Door.Listener.port g.P.Door.Listener.accepted g.P.Door.Listener.finished g.P.Door.Listener.waiting g.P.Door.Listener.done) g.P.Door.Listener.faults (IsSome (g.P.Ports.asked c.args.ports.now)) c.args.port c.args.nodes c.open_each.new.doors.items (omega (arith, c.in-Ok.ensures.asked.0, c.min.ensures)) c.open_each.ensures.new))
    c.in-Ok.ensures.asked.2

pub returns-in-Err-clause-came : goal.returns-in-Err-clause-came
returns-in-Err-clause-came g c = (
  omega (arith, c.in-Err.ensures.asked.0, c.min.ensures),
  new_unused (telling g.P.Door.Listener.port g.P.Door.Listener.accepted g.P.Door.Listener.finished g.P.Door.Listener.waiting g.P.Door.Listener.done) g.P.Door.Listener.faults (IsSome (g.P.Ports.asked c.args.ports.now)) c.args.port c.args.nodes c.open_each.new.doors.items
      (of_nodes (telling g.P.Door.Listener.port g.P.Door.Listener.accepted g.P.Door.Listener.finished g.P.Door.Listener.waiting g.P.Door.Listener.done) g.P.Door.Listener.faults (IsSome (g.P.Ports.asked c.args.ports.now)) c.args.port c.args.nodes c.open_each.new.doors.items (omega (arith, c.in-Err.ensures.asked.0, c.min.ensures)) c.open_each.ensures.new),
)

pub returns-in-Err-clause-asked : goal.returns-in-Err-clause-asked
returns-in-Err-clause-asked g c =
    subst (λ (ports : List ℕ). Adds (g.P.Ports.asked c.args.ports.now) (g.P.Ports.asked c.open_each.new.ports) ports)
    (sym (first_ports c.args.port (length c.open_each.new.doors.items + 1) (min c.args.workers c.args.nodes) (omega (arith, c.in-Err.ensures.asked.0, c.min.ensures))))
    c.in-Err.ensures.asked.1

pub returns-in-Err-clause-faults : goal.returns-in-Err-clause-faults
returns-in-Err-clause-faults g c = inl c.in-Err.ensures.asked.2
