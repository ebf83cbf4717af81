use Rattle.std.proofs.Common.{◌≡◌, ℕ, length, inl, refl, ap, subst, arith}
use Rattle.std.specs.Prelude.{IsSome}
use Rattle.edge_io.specs.Writes.{Adds}
use Rattle.run_model.specs.Headline.{ListenFault, Memory}
use Rattle.kme_serve.specs.Door.{Door}
use Rattle.kme_serve.specs.Doors.{PortsTold, ports_of, ports_told, AreOpened, WereOpened}
use Rattle.kme_serve.proofs.Rooms.{adds_same, adds_to}
use Rattle.net_serve.proofs.Going.{nothing_served, served_over}
use Rattle.net_serve.proofs.over.serve_over.Goals as goal
use Rattle.world_state.specs.Outside.{outside}

pub returns-in-Err-Listen-clause-served : goal.returns-in-Err-Listen-clause-served
returns-in-Err-Listen-clause-served g c net w stands =
    let tell : g.row.P-Door.Denot → Door = λ d.
    record { port = g.P.Door.Listener.port d; accepted = g.P.Door.Listener.accepted d; finished = g.P.Door.Listener.finished d; waiting = g.P.Door.Listener.waiting d; done = g.P.Door.Listener.done d } in
    let failed = g.P.Door.Listener.faults in
    let tells = IsSome (g.P.Ports.asked c.args.ports.now) in
    let before : PortsTold g.row.P-Door.Denot = ports_told g.P.Ports.asked g.P.Ports.back g.P.Ports.queues c.args.ports.now in
    let after : PortsTold g.row.P-Door.Denot = ports_told g.P.Ports.asked g.P.Ports.back g.P.Ports.queues c.open_doors.new.ports in
    let is = c.in-Err-Listen.field-0-is in
    let opened : WereOpened tell failed c.args.port c.args.workers (length c.args.state.now.site.nodes) before after =
    subst (λ (n : ℕ). WereOpened tell failed c.args.port c.args.workers n before after) c.len-nodes.ensures (c.in-Err-Listen.ensures.listen cc) in
    nothing_served (outside g.K.Disk g.Q.Device g.E.Entropy g.X.Wire) tell failed tells c.args.workers c.args.connections c.args.port
    c.args.state.now net w before after stands c.args.state.now refl ListenFault (inl (record { nodes = c.requires.some; opened = opened; none = refl }))

pub returns-in-Err-Memory-clause-served : goal.returns-in-Err-Memory-clause-served
returns-in-Err-Memory-clause-served g c net w stands =
    let tell : g.row.P-Door.Denot → Door = λ d.
    record { port = g.P.Door.Listener.port d; accepted = g.P.Door.Listener.accepted d; finished = g.P.Door.Listener.finished d; waiting = g.P.Door.Listener.waiting d; done = g.P.Door.Listener.done d } in
    let failed = g.P.Door.Listener.faults in
    let tells = IsSome (g.P.Ports.asked c.args.ports.now) in
    let before : PortsTold g.row.P-Door.Denot = ports_told g.P.Ports.asked g.P.Ports.back g.P.Ports.queues c.args.ports.now in
    let after : PortsTold g.row.P-Door.Denot = ports_told g.P.Ports.asked g.P.Ports.back g.P.Ports.queues c.open_doors.new.ports in
    let is = c.in-Err-Memory.field-0-is in
    let same : c.open_doors.new.ports ≡ c.args.ports.now = c.in-Err-Memory.ensures.memory cc in
    nothing_served (outside g.K.Disk g.Q.Device g.E.Entropy g.X.Wire) tell failed tells c.args.workers c.args.connections c.args.port
    c.args.state.now net w before after stands c.args.state.now refl Memory
    (inl (record { same = ap (λ (p : g.row.P.Denot). ports_told g.P.Ports.asked g.P.Ports.back g.P.Ports.queues p) same; none = refl }))

pub serve-result-requires-clause-fresh : goal.serve-result-requires-clause-fresh
serve-result-requires-clause-fresh g c κs within = λ k d at.
    let new = c.in-Ok.ensures.opened.new k d at in
    let none = new.none_accepted in
    let done = new.none_finished in
    let few = c.requires.connections in
    (omega (arith, none, few), omega (arith, none, done))

pub returns-clause-served : goal.returns-clause-served
returns-clause-served g c net w stands =
    let tell : g.row.P-Door.Denot → Door = λ d.
    record { port = g.P.Door.Listener.port d; accepted = g.P.Door.Listener.accepted d; finished = g.P.Door.Listener.finished d; waiting = g.P.Door.Listener.waiting d; done = g.P.Door.Listener.done d } in
    let failed = g.P.Door.Listener.faults in
    let tells = IsSome (g.P.Ports.asked c.args.ports.now) in
    let before : PortsTold g.row.P-Door.Denot = ports_told g.P.Ports.asked g.P.Ports.back g.P.Ports.queues c.args.ports.now in
    let after : PortsTold g.row.P-Door.Denot = ports_told g.P.Ports.asked g.P.Ports.back g.P.Ports.queues c.shut_doors.new.ports in
    let nodes = length c.args.state.now.site.nodes in
    let opened : AreOpened tell failed tells before.queues c.args.port c.args.workers nodes c.in-Ok.doors.items =
    subst (λ (n : ℕ). AreOpened tell failed tells before.queues c.args.port c.args.workers n c.in-Ok.doors.items) c.len-nodes.ensures c.in-Ok.ensures.opened in
    let asked : Adds before.asked after.asked (ports_of c.args.port c.args.workers nodes) =
    adds_to before.asked (g.P.Ports.asked c.open_doors.new.ports) after.asked (ports_of c.args.port c.args.workers nodes)
    (subst (λ (n : ℕ). Adds before.asked (g.P.Ports.asked c.open_doors.new.ports) (ports_of c.args.port c.args.workers n)) c.len-nodes.ensures c.in-Ok.ensures.asked) c.shut_doors.ensures.same.0 in
    let given : Adds before.back after.back c.serve-result.result.1.items =
    adds_same before.back (g.P.Ports.back c.open_doors.new.ports) after.back c.serve-result.result.1.items c.in-Ok.ensures.same.0 c.shut_doors.ensures.back in
    served_over (outside g.K.Disk g.Q.Device g.E.Entropy g.X.Wire) tell failed tells c.args.workers c.args.connections c.args.port
    c.args.state.now net w before after stands c.serve-result.new.state c.in-Ok.doors.items c.serve-result.result.1.items c.requires.some opened asked given
    c.serve-result.result.0 c.serve-result.ensures.memory (λ some. c.serve-result.ensures.served some net w stands)
