-- The generated scenario is that of `rounds` rounds.
use Rattle.std.proofs.Common.{◌⊎◌, subst}
use Rattle.run_types.specs.declared.scenario.Scenario.{Scenario}
use Rattle.run_model.specs.Course.{Load}
use Rattle.net_world.specs.Running.{HasHeadlines, WasLeft, ended}
use Rattle.run_model.specs.Load.{load_scenario}
use Rattle.run_model.specs.Headline.{given_to}
use Rattle.run_lines.specs.Reporting.{InLines}
use Rattle.run_tasks.specs.Pieces.{IsLoadLine}
use Rattle.net_world.proofs.Lined.{none_written}
use Rattle.net_world.proofs.load.run_load.Goals as goal
use Rattle.world_state.specs.Outside.{outside}

pub returns-clause-headline : goal.returns-clause-headline
returns-clause-headline g c =
    subst (λ (s : Scenario). WasLeft c.args.bench.now c.run_lines_of.new.bench c.args.sink.now c.run_lines_of.new.sink c.run_lines_of.result
    ⊎ HasHeadlines (outside g.K.Disk g.Q.Device g.E.Entropy g.X.Wire)
    c.args.bench.now c.run_lines_of.new.bench (Load c.args.rounds) s
    (given_to g.W.Sink.taken g.W.Sink.pieces c.args.sink.now) (given_to g.W.Sink.taken g.W.Sink.pieces c.run_lines_of.new.sink) (ended c.run_lines_of.result))
    c.in-Ok.ensures.is (c.run_lines_of.ensures.headline c.args.rounds c.in-Ok.ensures.is)

pub returns-clause-lined : goal.returns-clause-lined
returns-clause-lined g c =
    subst (λ (s : Scenario). InLines g.W.Sink.taken g.W.Sink.pieces (IsLoadLine s.site.nodes) c.args.sink.now c.run_lines_of.new.sink c.run_lines_of.result) c.in-Ok.ensures.is
    c.run_lines_of.ensures.lined

pub returns-in-Err-clause-lined : goal.returns-in-Err-clause-lined
returns-in-Err-clause-lined g c = none_written g.W.Sink.taken g.W.Sink.pieces (load_scenario c.args.rounds).site.nodes c.args.sink.now
