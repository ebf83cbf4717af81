use Rattle.std.proofs.Common.{inr}
use Rattle.run_model.specs.Headline.{given_to}
use Rattle.net_world.proofs.VeilHeadlines.{never_blamed, veiled}
use Rattle.net_world.proofs.Rooms.{whole_again}
use Rattle.net_world.proofs.veil_run.run_veil.Goals as goal
use Rattle.world_state.specs.Outside.{outside}

pub tell_after-told-requires-clause-calm : goal.tell_after-told-requires-clause-calm
tell_after-told-requires-clause-calm g c = never_blamed c.in-Ok.left.ended c.in-Ok.ensures.blame

pub returns-in-Ok-clause-veiled : goal.returns-in-Ok-clause-veiled
returns-in-Ok-clause-veiled g c =
    let r = c.in-Ok.ensures.ran in
    inr (veiled (outside g.K.Disk g.Q.Device g.E.Entropy g.X.Wire)
    (given_to g.W.Sink.taken g.W.Sink.pieces) c.args.bench.now c.run_out.new.bench c.put_back.new.bench c.in-Ok.left.state c.args.scenario c.in-Ok.left.ended c.args.sink.now c.tell_after-told.new.sink c.tell_after-told.result
    c.frames_of_a_network.ensures c.law_tasks_are_run.ensures.run c.law_tasks_are_run.ensures.world c.law_headline_of_tasks.ensures.run c.law_lines_are_the_whole.ensures.world c.law_other_keys_fit.ensures
    c.requires.fresh c.requires.runnable.site r c.put_back.ensures (never_blamed c.in-Ok.left.ended c.in-Ok.ensures.blame) c.tell_after-told.ensures.ends)

pub returns-in-Ok-clause-whole : goal.returns-in-Ok-clause-whole
returns-in-Ok-clause-whole g c =
    let r = c.in-Ok.ensures.ran in
    whole_again g.K.Disk c.args.bench.now c.run_out.new.bench c.put_back.new.bench c.args.scenario.site
    r.begin c.in-Ok.left.state c.requires.runnable.site c.requires.fresh.whole r.laid r.sized r.sited c.put_back.ensures
