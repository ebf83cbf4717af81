use Rattle.std.proofs.Common.{◌≡◌, length, inl, refl, arith}
use Rattle.std.specs.Prelude.{IsSome}
use Rattle.run_model.specs.Headline.{Done}
use Rattle.kme_serve.specs.Door.{Door}
use Rattle.kme_serve.specs.Doors.{PortsTold, ports_told}
use Rattle.net_serve.proofs.Going.{nothing_served}
use Rattle.net_serve.proofs.over.serve_nodes.Goals as goal
use Rattle.world_state.specs.Outside.{outside}

pub returns-then-len-eq0-clause-served : goal.returns-then-len-eq0-clause-served
returns-then-len-eq0-clause-served g c net w stands =
    let tell : g.row.P-Door.Denot → Door = λ d.
    record { port = g.P.Door.Listener.port d; accepted = g.P.Door.Listener.accepted d; finished = g.P.Door.Listener.finished d; waiting = g.P.Door.Listener.waiting d; done = g.P.Door.Listener.done d } in
    let failed = g.P.Door.Listener.faults in
    let tells = IsSome (g.P.Ports.asked c.args.ports.now) in
    let before : PortsTold g.row.P-Door.Denot = ports_told g.P.Ports.asked g.P.Ports.back g.P.Ports.queues c.args.ports.now in
    let none : length c.args.state.now.site.nodes ≡ 0 = let is = c.len.ensures in let zero = c.if-len-eq0.true in omega (arith, is, zero) in
    nothing_served (outside g.K.Disk g.Q.Device g.E.Entropy g.X.Wire) tell failed tells c.args.workers c.args.connections c.args.port
    c.args.state.now net w before before stands c.args.state.now refl Done (inl (none, record { same = refl; none = refl }))
