-- The clauses of a served scenario over a bench.
use Rattle.std.proofs.Common.{◌≡◌, ◌∙◌, inr, ap}
use Rattle.std.specs.Prelude.{IsSome}
use Rattle.run_model.specs.Headline.{given_to}
use Rattle.kme_serve.specs.Door.{Door}
use Rattle.kme_serve.specs.Doors.{PortsTold, ports_told}
use Rattle.net_world.proofs.Rooms.{whole_again}
use Rattle.net_serve.proofs.Headlines.{headlines}
use Rattle.net_serve.proofs.Blaming.{blamed}
use Rattle.net_serve.proofs.Lined.{unlined, lined_behind}
use Rattle.net_serve.proofs.scenario_serve.run_serve.Goals as goal
use Rattle.world_state.specs.Outside.{outside}

pub returns-in-Ok-clause-headline : goal.returns-in-Ok-clause-headline
returns-in-Ok-clause-headline g c =
    let tell : g.row.P-Door.Denot → Door = λ d.
    record { port = g.P.Door.Listener.port d; accepted = g.P.Door.Listener.accepted d; finished = g.P.Door.Listener.finished d; waiting = g.P.Door.Listener.waiting d; done = g.P.Door.Listener.done d } in
    let failed = g.P.Door.Listener.faults in
    let tells = IsSome (g.P.Ports.asked c.args.ports.now) in
    let before : PortsTold g.row.P-Door.Denot = ports_told g.P.Ports.asked g.P.Ports.back g.P.Ports.queues c.args.ports.now in
    let after : PortsTold g.row.P-Door.Denot = ports_told g.P.Ports.asked g.P.Ports.back g.P.Ports.queues c.serve_behind-result.new.ports in
    let r = c.in-Ok.ensures.ran in
    inr (headlines (outside g.K.Disk g.Q.Device g.E.Entropy g.X.Wire) tell failed tells
    c.args.bench.now c.run_out.new.bench c.put_back.new.bench c.in-Ok.left.state c.serve_behind-result.new.state c.args.scenario c.args.service.workers c.args.service.connections c.args.service.port
    (given_to g.W.Sink.taken g.W.Sink.pieces c.args.sink.now) (given_to g.W.Sink.taken g.W.Sink.pieces c.run_out.new.sink) (given_to g.W.Sink.taken g.W.Sink.pieces c.serve_behind-result.new.sink) before after c.in-Ok.left.ended c.serve_behind-result.result
    c.law_tasks_are_run.ensures.world c.law_bench_begins.ensures.benched c.law_bench_serves.ensures c.requires.fresh c.requires.runnable.site r c.serve_behind-result.ensures.ends c.put_back.ensures)

pub returns-in-Ok-clause-whole : goal.returns-in-Ok-clause-whole
returns-in-Ok-clause-whole g c =
    let r = c.in-Ok.ensures.ran in
    whole_again g.K.Disk c.args.bench.now c.run_out.new.bench c.put_back.new.bench c.args.scenario.site
    r.begin c.serve_behind-result.new.state c.requires.runnable.site c.requires.fresh.whole r.laid c.serve_behind-result.ensures.sized (c.serve_behind-result.ensures.site ∙ r.sited) c.put_back.ensures

pub returns-in-Ok-clause-blame : goal.returns-in-Ok-clause-blame
returns-in-Ok-clause-blame g c =
    blamed (g.W.Sink.faults c.args.sink.now) (g.W.Sink.faults c.run_out.new.sink) (g.W.Sink.faults c.serve_behind-result.new.sink) c.in-Ok.left.ended c.serve_behind-result.result
    (c.serve_behind-result.new.sink ≡ c.run_out.new.sink) (λ same. ap g.W.Sink.faults same) c.in-Ok.ensures.blame c.serve_behind-result.ensures.blame

pub returns-in-Ok-clause-lined : goal.returns-in-Ok-clause-lined
returns-in-Ok-clause-lined g c =
    lined_behind g.W.Sink.taken g.W.Sink.pieces c.args.scenario.site.nodes _ _ c.args.sink.now c.run_out.new.sink c.serve_behind-result.new.sink c.in-Ok.left.ended c.serve_behind-result.result
    c.in-Ok.ensures.lined c.serve_behind-result.ensures.lined

pub returns-in-Err-clause-lined : goal.returns-in-Err-clause-lined
returns-in-Err-clause-lined g c = rw c.in-Err.ensures.err.1 (unlined g.W.Sink.taken g.W.Sink.pieces c.args.scenario.site.nodes c.args.sink.now)
