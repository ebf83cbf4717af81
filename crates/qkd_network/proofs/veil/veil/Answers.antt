use Rattle.std.proofs.Common.{sym, subst}
use Rattle.run_types.specs.declared.scenario.Scenario.{Scenario}
use Rattle.run_model.specs.Headline as headline
use Rattle.run_model.specs.Headline.{given_to}
use Rattle.net_world.specs.Veiling.{HasVeiled}
use Rattle.qkd_network.specs.Outcome.{ScenarioOutcome}
use Rattle.qkd_network.specs.declared.status.Status.{Status}
use Rattle.qkd_network.proofs.Outcomes.{scenario_unread, veil_ran, left_or}
use Rattle.qkd_network.proofs.veil.veil.Goals as goal
use Rattle.net_world.specs.New.{outside}

pub returns-in-Err-clause-outcome : goal.returns-in-Err-clause-outcome
returns-in-Err-clause-outcome g c =
    scenario_unread g.S.Source.left
    (λ (scenario : Scenario) (stop : headline.Stop). HasVeiled (outside g.K.Disk g.Q.Device g.E.Entropy g.X.Wire)
    (given_to g.W.Sink.taken g.W.Sink.pieces) c.args.bench.now c.args.bench.now scenario c.args.sink.now c.args.sink.now stop)
    c.args.source.now c.scenario_in.new.source c.in-Err.status c.args.sink.now c.args.bench.now c.in-Err.ensures.read

pub returns-in-Ok-clause-outcome : goal.returns-in-Ok-clause-outcome
returns-in-Ok-clause-outcome g c =
    subst (λ (s : Status). ScenarioOutcome g.S.Source.left
    (λ (scenario : Scenario) (stop : headline.Stop). HasVeiled (outside g.K.Disk g.Q.Device g.E.Entropy g.X.Wire)
    (given_to g.W.Sink.taken g.W.Sink.pieces) c.args.bench.now c.run_veil.new.bench scenario c.args.sink.now c.run_veil.new.sink stop)
    s c.args.source.now c.scenario_in.new.source c.args.sink.now c.run_veil.new.sink c.args.bench.now c.run_veil.new.bench)
    (sym c.of_run.ensures)
    (veil_ran g.S.Source.left
    (λ (scenario : Scenario) (stop : headline.Stop). HasVeiled (outside g.K.Disk g.Q.Device g.E.Entropy g.X.Wire)
    (given_to g.W.Sink.taken g.W.Sink.pieces) c.args.bench.now c.run_veil.new.bench scenario c.args.sink.now c.run_veil.new.sink stop)
    c.args.source.now c.scenario_in.new.source c.in-Ok.scenario c.in-Ok.ensures.read c.args.sink.now c.run_veil.new.sink c.args.bench.now c.run_veil.new.bench c.run_veil.result
    (left_or c.args.bench.now c.run_veil.new.bench c.args.sink.now c.run_veil.new.sink c.run_veil.result _ c.run_veil.ensures.veiled))
