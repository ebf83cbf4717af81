use Rattle.std.proofs.Common.{◌∙◌, ◌++◌, ◌∷◌, [], ap}
use Rattle.net_model.specs.declared.record.Record.{Record}
use Rattle.std.specs.Prelude.{◌/◌}
use Rattle.end_store.specs.Pooled.{ends_view}
use Rattle.kme_keys.proofs.Made.{one_key}
use Rattle.kme_keys.proofs.fresh_keys.new_keys.Goals as goal

pub loop-more-preserved : goal.loop-more-preserved
loop-more-preserved c =
    let p = c.args.pool.now in
    one_key (ends_view c.args.store.now) p.master p.slave c.args.route (p.bits / 8) c.args.random.now c.loop-more.left.now c.octets_behind-left.result.now c.loop-more.more c.args.count c.loop-more.batch c.push.new.self
    c.loop-more.invariant c.loop-more-test.true (c.in_ok-push.ensures.ok ∙ ap (λ (r : Record). c.loop-more.batch ++ r ∷ []) c.in_ok-entry.ensures) c.octets_behind-left.ensures
