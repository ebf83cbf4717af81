use Rattle.std.proofs.Common.{sym, subst, arith, ◌∙◌}
use Rattle.std.specs.Prelude.{IsSome}
use Rattle.run_types.specs.declared.scenario.Scenario.{Scenario}
use Rattle.run_model.specs.Course.{Serve}
use Rattle.run_model.specs.Headline as headline
use Rattle.run_model.specs.Headline.{given_to}
use Rattle.kme_serve.specs.Doors.{ports_told, telling}
use Rattle.kme_serve.proofs.Rooms.{room_of_new}
use Rattle.net_serve.specs.BenchServing.{HasServedHeadlines}
use Rattle.net_serve.specs.Lines.{IsServeLine}
use Rattle.qkd_network.specs.Lines.{WroteLines}
use Rattle.qkd_network.specs.Outcome.{ScenarioOutcome, beside}
use Rattle.qkd_network.specs.declared.status.Status.{Status}
use Rattle.qkd_network.proofs.Outcomes.{scenario_unread, serve_ran, left_with, listening}
use Rattle.qkd_network.proofs.Lined.{with_lines, serve_lined}
use Rattle.qkd_network.proofs.serve.serve.Goals as goal
use Rattle.net_world.specs.New.{outside}

pub run_serve-requires-clause-asked : goal.run_serve-requires-clause-asked
run_serve-requires-clause-asked g c κs within = room_of_new g.P.Ports.asked c.args.ports.now c.args.service.workers c.requires.ports.none_asked (omega (arith, c.requires.workers))

pub run_serve-requires-clause-back : goal.run_serve-requires-clause-back
run_serve-requires-clause-back g c κs within = room_of_new g.P.Ports.back c.args.ports.now c.args.service.workers c.requires.ports.none_back (omega (arith, c.requires.workers))

pub returns-in-Err-clause-outcome : goal.returns-in-Err-clause-outcome
returns-in-Err-clause-outcome g c =
    scenario_unread g.S.Source.left
    (λ (scenario : Scenario) (stop : headline.Stop). HasServedHeadlines (outside g.K.Disk g.Q.Device g.E.Entropy g.X.Wire)
    (telling g.P.Door.Listener.port g.P.Door.Listener.accepted g.P.Door.Listener.finished g.P.Door.Listener.waiting g.P.Door.Listener.done) g.P.Door.Listener.faults
    (IsSome (g.P.Ports.asked c.args.ports.now)) c.args.bench.now c.args.bench.now
    (ports_told g.P.Ports.asked g.P.Ports.back g.P.Ports.queues c.args.ports.now) (ports_told g.P.Ports.asked g.P.Ports.back g.P.Ports.queues c.args.ports.now)
    c.args.service.workers c.args.service.connections c.args.service.port scenario (given_to g.W.Sink.taken g.W.Sink.pieces c.args.sink.now) (given_to g.W.Sink.taken g.W.Sink.pieces c.args.sink.now) stop
    × WroteLines g.W.Sink.taken g.W.Sink.pieces (Serve c.args.service.workers c.args.service.connections c.args.service.port) scenario c.args.sink.now c.args.sink.now stop)
    c.args.source.now c.scenario_in.new.source c.in-Err.status c.args.sink.now (beside c.args.bench.now c.args.ports.now) c.in-Err.ensures.read

pub returns-in-Ok-clause-outcome : goal.returns-in-Ok-clause-outcome
returns-in-Ok-clause-outcome g c =
    subst (λ (s : Status). ScenarioOutcome g.S.Source.left
    (λ (scenario : Scenario) (stop : headline.Stop). HasServedHeadlines (outside g.K.Disk g.Q.Device g.E.Entropy g.X.Wire)
    (telling g.P.Door.Listener.port g.P.Door.Listener.accepted g.P.Door.Listener.finished g.P.Door.Listener.waiting g.P.Door.Listener.done) g.P.Door.Listener.faults
    (IsSome (g.P.Ports.asked c.args.ports.now)) c.args.bench.now c.run_serve.new.bench
    (ports_told g.P.Ports.asked g.P.Ports.back g.P.Ports.queues c.args.ports.now) (ports_told g.P.Ports.asked g.P.Ports.back g.P.Ports.queues c.run_serve.new.ports)
    c.args.service.workers c.args.service.connections c.args.service.port scenario (given_to g.W.Sink.taken g.W.Sink.pieces c.args.sink.now) (given_to g.W.Sink.taken g.W.Sink.pieces c.run_serve.new.sink) stop
    × WroteLines g.W.Sink.taken g.W.Sink.pieces (Serve c.args.service.workers c.args.service.connections c.args.service.port) scenario c.args.sink.now c.run_serve.new.sink stop)
    s c.args.source.now c.scenario_in.new.source c.args.sink.now c.run_serve.new.sink (beside c.args.bench.now c.args.ports.now) (beside c.run_serve.new.bench c.run_serve.new.ports))
    (sym c.of_serve.ensures)
    (serve_ran g.S.Source.left
    (λ (scenario : Scenario) (stop : headline.Stop). HasServedHeadlines (outside g.K.Disk g.Q.Device g.E.Entropy g.X.Wire)
    (telling g.P.Door.Listener.port g.P.Door.Listener.accepted g.P.Door.Listener.finished g.P.Door.Listener.waiting g.P.Door.Listener.done) g.P.Door.Listener.faults
    (IsSome (g.P.Ports.asked c.args.ports.now)) c.args.bench.now c.run_serve.new.bench
    (ports_told g.P.Ports.asked g.P.Ports.back g.P.Ports.queues c.args.ports.now) (ports_told g.P.Ports.asked g.P.Ports.back g.P.Ports.queues c.run_serve.new.ports)
    c.args.service.workers c.args.service.connections c.args.service.port scenario (given_to g.W.Sink.taken g.W.Sink.pieces c.args.sink.now) (given_to g.W.Sink.taken g.W.Sink.pieces c.run_serve.new.sink) stop
    × WroteLines g.W.Sink.taken g.W.Sink.pieces (Serve c.args.service.workers c.args.service.connections c.args.service.port) scenario c.args.sink.now c.run_serve.new.sink stop)
    c.args.source.now c.scenario_in.new.source c.in-Ok.scenario c.in-Ok.ensures.read c.args.sink.now c.run_serve.new.sink
    (beside c.args.bench.now c.args.ports.now) (beside c.run_serve.new.bench c.run_serve.new.ports) c.run_serve.result
    (with_lines _ _ _ (left_with c.args.bench.now c.run_serve.new.bench c.args.sink.now c.run_serve.new.sink c.args.ports.now c.run_serve.new.ports c.run_serve.result _ c.run_serve.ensures.headline)
    (serve_lined g.W.Sink.taken g.W.Sink.pieces (IsServeLine c.in-Ok.scenario.site.nodes) c.args.sink.now c.run_serve.new.sink c.run_serve.result c.run_serve.ensures.lined)))

pub returns-in-Ok-clause-listen_fault : goal.returns-in-Ok-clause-listen_fault
returns-in-Ok-clause-listen_fault g c same = c.run_serve.ensures.listen (listening c.run_serve.result (sym c.of_serve.ensures ∙ same))
