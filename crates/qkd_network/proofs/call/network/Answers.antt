use Rattle.std.proofs.Common.{◌≡◌, ℕ, [], Ok, Err, sym, ap, subst, ◌∙◌, inl, inr}
use Rattle.std.specs.Prelude.{◌⊎◌}
use Rattle.run_types.specs.declared.scenario.Scenario.{Scenario}
use Rattle.run_lines.specs.declared.stop.Stop.TheVariants as stops
use Rattle.run_model.specs.Course.{Words, Run, Load}
use Rattle.run_model.specs.Load.{load_scenario}
use Rattle.run_model.specs.Headline as headline
use Rattle.run_model.specs.Headline.{Given, given_to}
use Rattle.net_world.specs.Running.{HasHeadlines, ended}
use Rattle.net_world.specs.Veiling.{HasVeiled}
use Rattle.qkd_network.specs.Forms.{wanted_of}
use Rattle.qkd_network.specs.declared.form.Form.{Form}
use Rattle.run_tasks.specs.Pieces.{IsLoadLine}
use Rattle.qkd_network.specs.Lines.{IsLineOf, WroteLines}
use Rattle.qkd_network.specs.Quiet.{given_lines, IsQuiet}
use Rattle.qkd_network.specs.Outcome.{RunOutcome, beside}
use Rattle.qkd_network.specs.declared.status.Status.{Status}
use Rattle.qkd_network.proofs.Outcomes.{unread, ran, loaded, left_beside, beside_ports, answered_calm}
use Rattle.qkd_network.proofs.Lined.{with_lines, run_lined}
use Rattle.qkd_network.proofs.call.network.Goals as goal
use Rattle.net_world.specs.New.{outside}

pub returns-in-Err-scenario_in-clause-outcome : goal.returns-in-Err-scenario_in-clause-outcome
returns-in-Err-scenario_in-clause-outcome g c =
    inl (unread g.S.Source.left
    (λ (asked : Words) (scenario : Scenario) (stop : headline.Stop). HasHeadlines (outside g.K.Disk g.Q.Device g.E.Entropy g.X.Wire)
    c.args.bench.now c.args.bench.now asked scenario (given_to g.W.Sink.taken g.W.Sink.pieces c.args.sink.now) (given_to g.W.Sink.taken g.W.Sink.pieces c.args.sink.now) stop
    × WroteLines g.W.Sink.taken g.W.Sink.pieces asked scenario c.args.sink.now c.args.sink.now stop)
    c.args.words.now c.in-Ok-Run.workers (c.in-Ok-Run.ensures.form ∙ ap (λ (f : Form). Ok (wanted_of f)) c.in-Ok-Run.field-0-is) c.args.source.now c.scenario_in.new.source
    c.in-Err-scenario_in.status c.args.sink.now (beside c.args.bench.now c.args.ports.now) c.in-Err-scenario_in.ensures.read)

pub returns-in-Ok-Veil-clause-outcome : goal.returns-in-Ok-Veil-clause-outcome
returns-in-Ok-Veil-clause-outcome g c =
    inr (inr (inl (record {
      form = c.in-Ok-Veil.ensures.form ∙ ap (λ (f : Form). Ok (wanted_of f)) c.in-Ok-Veil.field-0-is;
      calm = c.veil.ensures.calm;
      outcome = beside_ports g.S.Source.left
          (λ (scenario : Scenario) (stop : headline.Stop). HasVeiled (outside g.K.Disk g.Q.Device g.E.Entropy g.X.Wire)
          (given_to g.W.Sink.taken g.W.Sink.pieces) c.args.bench.now c.veil.new.bench scenario c.args.sink.now c.veil.new.sink stop)
          c.args.source.now c.veil.new.source c.veil.result c.args.sink.now c.veil.new.sink c.args.bench.now c.veil.new.bench c.args.ports.now c.veil.ensures.outcome;
    })))

pub returns-in-Ok-Serve-clause-outcome : goal.returns-in-Ok-Serve-clause-outcome
returns-in-Ok-Serve-clause-outcome g c =
    inr (inr (inr (inl (record {
      workers = c.in-Ok-Serve.workers;
      connections = c.in-Ok-Serve.connections;
      port = c.in-Ok-Serve.port;
      form = c.in-Ok-Serve.ensures.form ∙ ap (λ (f : Form). Ok (wanted_of f)) c.in-Ok-Serve.field-0-is;
      outcome = let outcome = c.serve.ensures.outcome in rw (c.connections_of.ensures.number) at outcome;
    }))))

pub returns-in-Ok-Quiet-clause-outcome : goal.returns-in-Ok-Quiet-clause-outcome
returns-in-Ok-Quiet-clause-outcome g c =
    inr (inr (inr (inr (record {
      workers = c.in-Ok-Quiet.workers;
      form = c.in-Ok-Quiet.ensures.form ∙ ap (λ (f : Form). Ok (wanted_of f)) c.in-Ok-Quiet.field-0-is;
      calm = c.quiet.ensures.calm;
      outcome = beside_ports g.S.Source.left
          (λ (scenario : Scenario) (stop : headline.Stop). IsQuiet g.W.Sink.taken g.W.Sink.pieces
          (λ (report : Given) (end : headline.Stop). HasHeadlines (outside g.K.Disk g.Q.Device g.E.Entropy g.X.Wire)
          c.args.bench.now c.quiet.new.bench (Run c.in-Ok-Quiet.workers) scenario (given_lines []) report end)
          scenario.site.nodes c.args.sink.now c.quiet.new.sink stop)
          c.args.source.now c.quiet.new.source c.quiet.result c.args.sink.now c.quiet.new.sink c.args.bench.now c.quiet.new.bench c.args.ports.now c.quiet.ensures.outcome;
    }))))

pub returns-in-Ok-Serve-clause-ports : goal.returns-in-Ok-Serve-clause-ports
returns-in-Ok-Serve-clause-ports g c =
    inl (c.in-Ok-Serve.workers, (c.in-Ok-Serve.connections, (c.in-Ok-Serve.port, c.in-Ok-Serve.ensures.form ∙ ap (λ (f : Form). Ok (wanted_of f)) c.in-Ok-Serve.field-0-is)))

pub returns-in-Ok-clause-outcome : goal.returns-in-Ok-clause-outcome
returns-in-Ok-clause-outcome g c =
    inl (subst (λ (s : Status). RunOutcome g.S.Source.left
    (λ (asked : Words) (scenario : Scenario) (stop : headline.Stop). HasHeadlines (outside g.K.Disk g.Q.Device g.E.Entropy g.X.Wire)
    c.args.bench.now c.run_scenario.new.bench asked scenario (given_to g.W.Sink.taken g.W.Sink.pieces c.args.sink.now) (given_to g.W.Sink.taken g.W.Sink.pieces c.run_scenario.new.sink) stop
    × WroteLines g.W.Sink.taken g.W.Sink.pieces asked scenario c.args.sink.now c.run_scenario.new.sink stop)
    s c.args.words.now c.args.source.now c.scenario_in.new.source c.args.sink.now c.run_scenario.new.sink (beside c.args.bench.now c.args.ports.now) (beside c.run_scenario.new.bench c.args.ports.now))
    (sym c.of_run-in-Ok.ensures)
    (ran g.S.Source.left
    (λ (asked : Words) (scenario : Scenario) (stop : headline.Stop). HasHeadlines (outside g.K.Disk g.Q.Device g.E.Entropy g.X.Wire)
    c.args.bench.now c.run_scenario.new.bench asked scenario (given_to g.W.Sink.taken g.W.Sink.pieces c.args.sink.now) (given_to g.W.Sink.taken g.W.Sink.pieces c.run_scenario.new.sink) stop
    × WroteLines g.W.Sink.taken g.W.Sink.pieces asked scenario c.args.sink.now c.run_scenario.new.sink stop)
    c.args.words.now c.in-Ok-Run.workers (c.in-Ok-Run.ensures.form ∙ ap (λ (f : Form). Ok (wanted_of f)) c.in-Ok-Run.field-0-is) c.args.source.now c.scenario_in.new.source
    c.in-Ok.scenario c.in-Ok.ensures.read
    c.args.sink.now c.run_scenario.new.sink (beside c.args.bench.now c.args.ports.now) (beside c.run_scenario.new.bench c.args.ports.now) c.run_scenario.result
    (with_lines _ _ _ (left_beside c.args.bench.now c.run_scenario.new.bench c.args.ports.now c.args.sink.now c.run_scenario.new.sink c.run_scenario.result _ c.run_scenario.ensures.headline)
    (run_lined g.W.Sink.taken g.W.Sink.pieces (IsLineOf (Run c.in-Ok-Run.workers) c.in-Ok.scenario.site.nodes) c.args.sink.now c.run_scenario.new.sink c.run_scenario.result c.run_scenario.ensures.lined))))

pub returns-in-Ok-Load-clause-outcome : goal.returns-in-Ok-Load-clause-outcome
returns-in-Ok-Load-clause-outcome g c =
    inl (subst (λ (s : Status). RunOutcome g.S.Source.left
    (λ (asked : Words) (scenario : Scenario) (stop : headline.Stop). HasHeadlines (outside g.K.Disk g.Q.Device g.E.Entropy g.X.Wire)
    c.args.bench.now c.run_load.new.bench asked scenario (given_to g.W.Sink.taken g.W.Sink.pieces c.args.sink.now) (given_to g.W.Sink.taken g.W.Sink.pieces c.run_load.new.sink) stop
    × WroteLines g.W.Sink.taken g.W.Sink.pieces asked scenario c.args.sink.now c.run_load.new.sink stop)
    s c.args.words.now c.args.source.now c.args.source.now c.args.sink.now c.run_load.new.sink (beside c.args.bench.now c.args.ports.now) (beside c.run_load.new.bench c.args.ports.now))
    (sym c.of_run.ensures)
    (loaded g.S.Source.left
    (λ (asked : Words) (scenario : Scenario) (stop : headline.Stop). HasHeadlines (outside g.K.Disk g.Q.Device g.E.Entropy g.X.Wire)
    c.args.bench.now c.run_load.new.bench asked scenario (given_to g.W.Sink.taken g.W.Sink.pieces c.args.sink.now) (given_to g.W.Sink.taken g.W.Sink.pieces c.run_load.new.sink) stop
    × WroteLines g.W.Sink.taken g.W.Sink.pieces asked scenario c.args.sink.now c.run_load.new.sink stop)
    c.args.words.now c.in-Ok-Load.rounds (c.in-Ok-Load.ensures.form ∙ ap (λ (f : Form). Ok (wanted_of f)) c.in-Ok-Load.field-0-is) c.args.source.now
    c.args.sink.now c.run_load.new.sink (beside c.args.bench.now c.args.ports.now) (beside c.run_load.new.bench c.args.ports.now) c.run_load.result
    (subst (λ (r : ℕ). ((c.run_load.result ≡ Err stops.Memory) × (c.run_load.new.sink ≡ c.args.sink.now) × ((beside c.run_load.new.bench c.args.ports.now) ≡ (beside c.args.bench.now c.args.ports.now))) ⊎
    (HasHeadlines (outside g.K.Disk g.Q.Device g.E.Entropy g.X.Wire)
    c.args.bench.now c.run_load.new.bench (Load r) (load_scenario r) (given_to g.W.Sink.taken g.W.Sink.pieces c.args.sink.now) (given_to g.W.Sink.taken g.W.Sink.pieces c.run_load.new.sink) (ended c.run_load.result)
    × WroteLines g.W.Sink.taken g.W.Sink.pieces (Load r) (load_scenario r) c.args.sink.now c.run_load.new.sink (ended c.run_load.result)))
    c.in-Ok-Load.rounds-is
    (with_lines _ _ _ (left_beside c.args.bench.now c.run_load.new.bench c.args.ports.now c.args.sink.now c.run_load.new.sink c.run_load.result _ c.run_load.ensures.headline)
    (run_lined g.W.Sink.taken g.W.Sink.pieces (IsLoadLine (load_scenario c.in-Ok-Load.rounds).site.nodes) c.args.sink.now c.run_load.new.sink c.run_load.result c.run_load.ensures.lined)))))

pub returns-in-Ok-Bound-clause-source_calm : goal.returns-in-Ok-Bound-clause-source_calm
returns-in-Ok-Bound-clause-source_calm g c = answered_calm _ c.answer_to.result _ c.of_answer.ensures c.answer_to.ensures.calm

pub returns-in-Ok-Audit-clause-source_calm : goal.returns-in-Ok-Audit-clause-source_calm
returns-in-Ok-Audit-clause-source_calm g c = answered_calm _ c.answer_to-in-Ok-Audit.result _ c.of_answer-in-Ok-Audit.ensures c.answer_to-in-Ok-Audit.ensures.calm

pub returns-in-Ok-Check-clause-source_calm : goal.returns-in-Ok-Check-clause-source_calm
returns-in-Ok-Check-clause-source_calm g c = answered_calm _ c.answer_to-in-Ok-Check.result _ c.of_answer-in-Ok-Check.ensures c.answer_to-in-Ok-Check.ensures.calm

pub returns-in-Ok-Json-clause-source_calm : goal.returns-in-Ok-Json-clause-source_calm
returns-in-Ok-Json-clause-source_calm g c = answered_calm _ c.answer_to-in-Ok-Json.result _ c.of_answer-in-Ok-Json.ensures c.answer_to-in-Ok-Json.ensures.calm

pub returns-in-Ok-WholeAudit-clause-source_calm : goal.returns-in-Ok-WholeAudit-clause-source_calm
returns-in-Ok-WholeAudit-clause-source_calm g c = answered_calm _ c.answer_to-in-Ok-WholeAudit.result _ c.of_answer-in-Ok-WholeAudit.ensures c.answer_to-in-Ok-WholeAudit.ensures.calm
