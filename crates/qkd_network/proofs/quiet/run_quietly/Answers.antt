use Rattle.std.proofs.Common.{[]}
use Rattle.run_model.specs.Course.{Run}
use Rattle.run_model.specs.Headline as headline
use Rattle.run_model.specs.Headline.{Given}
use Rattle.net_world.specs.Running.{HasHeadlines}
use Rattle.qkd_network.specs.Quiet.{given_lines}
use Rattle.qkd_network.proofs.Quietly.{quietly}
use Rattle.qkd_network.proofs.quiet.run_quietly.Goals as goal
use Rattle.net_world.specs.New.{outside}

pub returns-clause-quiet : goal.returns-clause-quiet
returns-clause-quiet g c =
    let whole = c.run_scenario-ended.ensures.headline in
    let lined = c.run_scenario-ended.ensures.lined in
    let told = c.tell_asked.ensures.told in
    quietly c.args.bench.now c.run_scenario-ended.new.bench g.W.Sink.taken g.W.Sink.pieces
    (λ (report : Given) (stop : headline.Stop). HasHeadlines (outside g.K.Disk g.Q.Device g.E.Entropy g.X.Wire)
    c.args.bench.now c.run_scenario-ended.new.bench (Run c.args.workers) c.args.scenario (given_lines []) report stop)
    c.args.scenario.site.nodes c.run_scenario-ended.new.sink c.args.sink.now c.tell_asked.new.sink c.run_scenario-ended.result c.tell_asked.result
    (rw c.new-kept.ensures at whole) (rw c.new-kept.ensures at lined) c.tell_asked.ensures.none c.tell_asked.ensures.wanting (rw c.in_ok-nodes.ensures at told)
