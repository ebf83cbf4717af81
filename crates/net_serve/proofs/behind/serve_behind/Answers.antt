use Rattle.std.proofs.Common.{◌≡◌, ℕ, [], ◌∷◌, length, Err, Ok, refl, sym, ap, subst}
use Rattle.std.specs.Prelude.{IsSome, Result}
use Rattle.run_model.specs.Course.{Serve, served_by}
use Rattle.run_types.specs.Texts.{served_text}
use Rattle.run_model.specs.Headline.{given_to}
use Rattle.run_lines.specs.declared.stop.Stop.TheVariants as stops
use Rattle.run_lines.proofs.Taking.{first_none}
use Rattle.kme_serve.specs.Door.{Door}
use Rattle.kme_serve.specs.Doors.{PortsTold, ports_told}
use Rattle.kme_serve.specs.declared.refusal.ServeRefusal.{ServeRefusal}
use Rattle.kme_serve.specs.declared.refusal.ServeRefusal.TheVariants as refusals
use Rattle.net_serve.specs.Behind.{IsLineTold, IsServed, served_as}
use Rattle.net_serve.specs.BenchServing.{ended}
use Rattle.net_serve.specs.declared.stop.ServeStop.{ServeStop}
use Rattle.net_serve.specs.declared.stop.ServeStop.TheVariants.{Stopped, Listen}
use Rattle.net_serve.proofs.BenchEnding.{ends_there, ends_at_last, ends_with_lines, of_all, of_some}
use Rattle.net_serve.proofs.Lined.{unserved, where_ended}
use Rattle.net_serve.proofs.behind.serve_behind.Goals as goal
use Rattle.world_state.specs.Outside.{outside}

pub returns-in-Err-clause-ends : goal.returns-in-Err-clause-ends
returns-in-Err-clause-ends g c net w left =
    let tell : g.row.P-Door.Denot → Door = λ d.
    record { port = g.P.Door.Listener.port d; accepted = g.P.Door.Listener.accepted d; finished = g.P.Door.Listener.finished d; waiting = g.P.Door.Listener.waiting d; done = g.P.Door.Listener.done d } in
    let failed = g.P.Door.Listener.faults in
    let tells = IsSome (g.P.Ports.asked c.args.ports.now) in
    let before : PortsTold g.row.P-Door.Denot = ports_told g.P.Ports.asked g.P.Ports.back g.P.Ports.queues c.args.ports.now in
    let text = served_text (served_by (Serve c.args.service.workers c.args.service.connections c.args.service.port) (length c.args.state.now.site.nodes)) in
    ends_with_lines (outside g.K.Disk g.Q.Device g.E.Entropy g.X.Wire) tell failed tells c.args.service.workers c.args.service.connections c.args.service.port
    c.args.state.now c.args.state.now net w before before (given_to g.W.Sink.taken g.W.Sink.pieces c.args.sink.now) (given_to g.W.Sink.taken g.W.Sink.pieces c.args.sink.now) text
    c.args.lines c.in-Err.stop c.in-Err.is _ refl refl refl refl (of_some _ _ c.args.lines c.in-Err.stop c.in-Err.is left)

pub returns-in-Err-Listen-clause-ends : goal.returns-in-Err-Listen-clause-ends
returns-in-Err-Listen-clause-ends g c net w left =
    let tell : g.row.P-Door.Denot → Door = λ d.
    record { port = g.P.Door.Listener.port d; accepted = g.P.Door.Listener.accepted d; finished = g.P.Door.Listener.finished d; waiting = g.P.Door.Listener.waiting d; done = g.P.Door.Listener.done d } in
    let failed = g.P.Door.Listener.faults in
    let tells = IsSome (g.P.Ports.asked c.args.ports.now) in
    let before : PortsTold g.row.P-Door.Denot = ports_told g.P.Ports.asked g.P.Ports.back g.P.Ports.queues c.args.ports.now in
    let after : PortsTold g.row.P-Door.Denot = ports_told g.P.Ports.asked g.P.Ports.back g.P.Ports.queues c.serve_nodes.new.ports in
    let text = served_text (served_by (Serve c.args.service.workers c.args.service.connections c.args.service.port) (length c.args.state.now.site.nodes)) in
    let result : Result (Unit {0}) ServeStop = Err Listen in
    let is : c.serve_nodes.result ≡ Err refusals.Listen = let e = c.in-Err-Listen.is in let f = c.in-Err-Listen.field-0-is in cc in
    let served = c.serve_nodes.ensures.served net w (of_all _ _ c.args.lines c.in_default.field-0 c.in_default.is left) in
    ends_there (outside g.K.Disk g.Q.Device g.E.Entropy g.X.Wire) tell failed tells c.args.service.workers c.args.service.connections c.args.service.port
    c.args.state.now c.serve_nodes.new.state net w before after (given_to g.W.Sink.taken g.W.Sink.pieces c.args.sink.now) (given_to g.W.Sink.taken g.W.Sink.pieces c.args.sink.now) text
    c.args.lines c.in_default.field-0 c.in_default.is (served_as c.serve_nodes.result) result (sym (ap (λ (r : Result (Unit {0}) ServeRefusal). served_as r) is)) served
    refl

pub returns-in-Err-Listen-clause-listen : goal.returns-in-Err-Listen-clause-listen
returns-in-Err-Listen-clause-listen g c = λ same. let e = c.in-Err-Listen.is in let f = c.in-Err-Listen.field-0-is in c.serve_nodes.ensures.listen cc

pub returns-in-Err-Memory-clause-ends : goal.returns-in-Err-Memory-clause-ends
returns-in-Err-Memory-clause-ends g c net w left =
    let tell : g.row.P-Door.Denot → Door = λ d.
    record { port = g.P.Door.Listener.port d; accepted = g.P.Door.Listener.accepted d; finished = g.P.Door.Listener.finished d; waiting = g.P.Door.Listener.waiting d; done = g.P.Door.Listener.done d } in
    let failed = g.P.Door.Listener.faults in
    let tells = IsSome (g.P.Ports.asked c.args.ports.now) in
    let before : PortsTold g.row.P-Door.Denot = ports_told g.P.Ports.asked g.P.Ports.back g.P.Ports.queues c.args.ports.now in
    let after : PortsTold g.row.P-Door.Denot = ports_told g.P.Ports.asked g.P.Ports.back g.P.Ports.queues c.serve_nodes.new.ports in
    let text = served_text (served_by (Serve c.args.service.workers c.args.service.connections c.args.service.port) (length c.args.state.now.site.nodes)) in
    let result : Result (Unit {0}) ServeStop = Err (Stopped stops.Memory) in
    let is : c.serve_nodes.result ≡ Err refusals.Memory = let e = c.in-Err-Memory.is in let f = c.in-Err-Memory.field-0-is in cc in
    let served = c.serve_nodes.ensures.served net w (of_all _ _ c.args.lines c.in_default.field-0 c.in_default.is left) in
    ends_there (outside g.K.Disk g.Q.Device g.E.Entropy g.X.Wire) tell failed tells c.args.service.workers c.args.service.connections c.args.service.port
    c.args.state.now c.serve_nodes.new.state net w before after (given_to g.W.Sink.taken g.W.Sink.pieces c.args.sink.now) (given_to g.W.Sink.taken g.W.Sink.pieces c.args.sink.now) text
    c.args.lines c.in_default.field-0 c.in_default.is (served_as c.serve_nodes.result) result (sym (ap (λ (r : Result (Unit {0}) ServeRefusal). served_as r) is)) served
    (first_none (given_to g.W.Sink.taken g.W.Sink.pieces c.args.sink.now) (text ∷ []))

pub returns-clause-ends : goal.returns-clause-ends
returns-clause-ends g c net w left =
    let tell : g.row.P-Door.Denot → Door = λ d.
    record { port = g.P.Door.Listener.port d; accepted = g.P.Door.Listener.accepted d; finished = g.P.Door.Listener.finished d; waiting = g.P.Door.Listener.waiting d; done = g.P.Door.Listener.done d } in
    let failed = g.P.Door.Listener.faults in
    let tells = IsSome (g.P.Ports.asked c.args.ports.now) in
    let before : PortsTold g.row.P-Door.Denot = ports_told g.P.Ports.asked g.P.Ports.back g.P.Ports.queues c.args.ports.now in
    let after : PortsTold g.row.P-Door.Denot = ports_told g.P.Ports.asked g.P.Ports.back g.P.Ports.queues c.serve_nodes.new.ports in
    let text = served_text (served_by (Serve c.args.service.workers c.args.service.connections c.args.service.port) (length c.args.state.now.site.nodes)) in
    let is : c.serve_nodes.result ≡ Ok c.in-Ok.field-0 = c.in-Ok.is in
    let served = c.serve_nodes.ensures.served net w (of_all _ _ c.args.lines c.in_default.field-0 c.in_default.is left) in
    let all = subst (λ (r : Result (Unit {0}) ServeRefusal). IsServed (outside g.K.Disk g.Q.Device g.E.Entropy g.X.Wire) tell failed tells c.args.service.workers c.args.service.connections c.args.service.port
    c.args.state.now c.serve_nodes.new.state net w before after (served_as r)) is served in
    let line = subst (λ (n : ℕ). IsLineTold (ended c.write_served.result) (given_to g.W.Sink.taken g.W.Sink.pieces c.args.sink.now) (given_to g.W.Sink.taken g.W.Sink.pieces c.write_served.new.sink) (served_text n)) (c.connections_in_all-all.ensures c.args.service.port)
    c.write_served.ensures.line in
    ends_at_last (outside g.K.Disk g.Q.Device g.E.Entropy g.X.Wire) tell failed tells c.args.service.workers c.args.service.connections c.args.service.port
    c.args.state.now c.serve_nodes.new.state net w before after (given_to g.W.Sink.taken g.W.Sink.pieces c.args.sink.now) (given_to g.W.Sink.taken g.W.Sink.pieces c.write_served.new.sink) text
    c.args.lines c.in_default.field-0 c.in_default.is c.write_served.result all c.write_served.ensures.calm line

pub returns-in-Err-Listen-clause-lined : goal.returns-in-Err-Listen-clause-lined
returns-in-Err-Listen-clause-lined g c = where_ended _ _ c.args.lines c.in_default.field-0 c.in_default.is (unserved g.W.Sink.taken g.W.Sink.pieces c.args.sink.now)

pub returns-in-Err-Memory-clause-lined : goal.returns-in-Err-Memory-clause-lined
returns-in-Err-Memory-clause-lined g c = where_ended _ _ c.args.lines c.in_default.field-0 c.in_default.is (unserved g.W.Sink.taken g.W.Sink.pieces c.args.sink.now)
