-- The clauses of a run over a bench.
use Rattle.std.proofs.Common.{inr}
use Rattle.run_model.specs.Headline.{given_to}
use Rattle.run_lines.proofs.Lines.{stopped_unwritten}
use Rattle.world_state.specs.declared.state.State.{State}
use Rattle.net_world.proofs.RunHeadlines.{headlines}
use Rattle.net_world.proofs.Rooms.{whole_again}
use Rattle.net_world.proofs.scenario_run.run_scenario.Goals as goal
use Rattle.world_state.specs.Outside.{outside}

pub returns-in-Ok-clause-headline : goal.returns-in-Ok-clause-headline
returns-in-Ok-clause-headline g c =
    let State-here = State g.row.K.Denot g.row.Q.Denot g.row.E.Denot g.row.X.Denot in
    let r = c.in-Ok.ensures.ran in
    inr (headlines (outside g.K.Disk g.Q.Device g.E.Entropy g.X.Wire)
    (λ (s : State-here). s)
    c.args.bench.now c.run_out.new.bench c.put_back.new.bench r.begin c.in-Ok.left.state c.args.scenario c.args.workers
    (given_to g.W.Sink.taken g.W.Sink.pieces c.args.sink.now) (given_to g.W.Sink.taken g.W.Sink.pieces c.run_out.new.sink) c.in-Ok.left.ended c.law_bench_headline.ensures.run
    c.requires.fresh c.requires.runnable.site r.laid r.ran c.put_back.ensures)

pub returns-in-Ok-clause-whole : goal.returns-in-Ok-clause-whole
returns-in-Ok-clause-whole g c =
    let r = c.in-Ok.ensures.ran in
    whole_again g.K.Disk c.args.bench.now c.run_out.new.bench c.put_back.new.bench c.args.scenario.site
    r.begin c.in-Ok.left.state c.requires.runnable.site c.requires.fresh.whole r.laid r.sized r.sited c.put_back.ensures

pub returns-in-Err-clause-lined : goal.returns-in-Err-clause-lined
returns-in-Err-clause-lined g c = rw c.in-Err.ensures.err.1 (stopped_unwritten g.W.Sink.taken g.W.Sink.pieces c.args.scenario.site.nodes c.args.sink.now)
