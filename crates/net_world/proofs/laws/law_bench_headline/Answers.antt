use Rattle.std.proofs.Common.{refl}
use Rattle.net_model.specs.World.{first}
use Rattle.run_model.specs.Report.{report, actions_of}
use Rattle.run_model.specs.Course.{tasks_of}
use Rattle.law_run.proofs.Resting.{first_begins}
use Rattle.net_world.specs.New.{network_on}
use Rattle.net_world.proofs.Headlines.{over_benched, over_seen}
use Rattle.net_world.proofs.laws.law_bench_headline.Goals as goal
use Rattle.world_state.specs.Outside.{outside}

pub returns-clause-run : goal.returns-clause-run
returns-clause-run g c http scenario workers stop old new before after done h runs told cut =
    let net = network_on g.Q.Device g.E.Entropy old scenario.site in
    let w = (report http net first (tasks_of scenario) done).world in
    let benched = over_benched (outside g.K.Disk g.Q.Device g.E.Entropy g.X.Wire)
    old new scenario (actions_of net done) w c.frames_of_a_network.ensures h in
    let sees = over_seen (outside g.K.Disk g.Q.Device g.E.Entropy g.X.Wire)
    old new scenario (actions_of net done) w c.frames_of_a_network.ensures h
    (c.law_tasks_are_run.ensures.run http net workers first (tasks_of scenario) done benched.network (first_begins net).conserved runs)
    (c.law_tasks_are_run.ensures.world http net workers first (tasks_of scenario) done benched.network (first_begins net).conserved runs) in
    record {
      net = refl;
      begin = refl;
      holds = λ reading seen reads on. c.law_headline_of_tasks.ensures.run http scenario workers stop reading seen before after net first done benched (first_begins net) runs told (sees reading seen reads on);
      cut = cut;
    }

pub returns-clause-load : goal.returns-clause-load
returns-clause-load g c http scenario rounds stop old new before after done is h runs told cut =
    let net = network_on g.Q.Device g.E.Entropy old scenario.site in
    let w = (report http net first (tasks_of scenario) done).world in
    let benched = over_benched (outside g.K.Disk g.Q.Device g.E.Entropy g.X.Wire)
    old new scenario (actions_of net done) w c.frames_of_a_network.ensures h in
    let sees = over_seen (outside g.K.Disk g.Q.Device g.E.Entropy g.X.Wire)
    old new scenario (actions_of net done) w c.frames_of_a_network.ensures h
    (c.law_tasks_are_run.ensures.run http net 1 first (tasks_of scenario) done benched.network (first_begins net).conserved runs)
    (c.law_tasks_are_run.ensures.world http net 1 first (tasks_of scenario) done benched.network (first_begins net).conserved runs) in
    record {
      net = refl;
      begin = refl;
      holds = λ reading seen reads on. c.law_headline_of_tasks.ensures.load http scenario rounds stop reading seen before after net first done is benched (first_begins net) runs told (sees reading seen reads on);
      cut = cut;
    }
