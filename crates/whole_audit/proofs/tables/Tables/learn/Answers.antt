use Rattle.std.proofs.Common.{◌≡◌, eqb, Option, refl, ap, ◌∙◌}
use Rattle.std.specs.List.{position_from}
use Rattle.run_audit.proofs.Recording.{on_ok_map}
use Rattle.run_types.specs.declared.command.Command.{Command}
use Rattle.item_audit.specs.Sayings.{said_at, said_of_node}
use Rattle.whole_audit.specs.Managers.{said}
use Rattle.item_audit.specs.Gifts.{given_if}
use Rattle.whole_audit.specs.Names.{given}
use Rattle.item_audit.specs.Stocks.{change_if}
use Rattle.whole_audit.specs.Pools.{change}
use Rattle.whole_audit.proofs.tables.Tables.learn.Goals as goal

pub returns : goal.returns
returns c before kept =
    let said_so : c.said_in-said.result ≡ said c.args.scenario.now c.args.told.now =
    c.said_in-said.ensures ∙ ap (λ (o : Option Command). said_of_node (position_from (λ n. eqb n c.args.told.now.number) 0 c.args.scenario.now.node_lines) (said_at c.args.scenario.now.site o c.args.told.now.item)) (c.command-command.ensures kept.spots) in
    let given_so : c.given_if-given.result ≡ given c.args.scenario.now c.args.told.now =
    c.given_if-given.ensures ∙ ap (λ (o : Option Command). given_if c.args.scenario.now.site o c.args.told.now.item) (c.command-command.ensures kept.spots) in
    let change_so : c.change_if.result ≡ change c.args.scenario.now c.args.told.now =
    c.change_if.ensures ∙ ap (λ (o : Option Command). change_if o c.args.told.now.item) (c.command-command.ensures kept.spots) in
    on_ok_map c.learn-9.result
    (λ names. record {
      spots = kept.spots;
      counts = c.in_ok-learn.ensures {u = tt} c.args.told.now before refl kept.counts;
      down = c.in_ok-learn_link.ensures {u = tt} c.args.told.now before refl kept.down;
      managers = c.in_ok-learn_manager.ensures {u = tt} c.args.scenario.now c.args.told.now before said_so kept.managers;
      started = c.in_ok-learn_start.ensures {u = tt} c.args.scenario.now c.args.told.now before said_so kept.started;
      stopped = c.in_ok-learn_stop.ensures {u = tt} c.args.scenario.now c.args.told.now before refl said_so kept.stopped;
      names = names;
      rests = c.in_ok-learn-2.ensures {u = tt} c.args.scenario.now before (c.command-command.ensures kept.spots) kept.rests;
      tracks = c.in_ok-learn-3.ensures {u = tt} c.args.told.now before refl kept.tracks;
      knowledge = c.in_ok-learn-4.ensures {u = tt} c.args.scenario.now c.args.told.now before refl refl kept.knowledge;
      frames = c.in_ok-learn-5.ensures {u = tt} c.args.told.now before refl kept.frames;
      handings = c.in_ok-learn-6.ensures {u = tt} c.args.scenario.now c.args.told.now before refl (c.command-command.ensures kept.spots) kept.handings;
      arrivals = c.in_ok-learn-7.ensures {u = tt} c.args.told.now before refl kept.arrivals;
      pools = c.in_ok-learn-8.ensures {u = tt} c.args.scenario.now c.args.told.now before change_so kept.pools;
    })
    (c.learn-9.ensures c.args.scenario.now c.args.told.now before given_so kept.names)
