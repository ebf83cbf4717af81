use Rattle.std.proofs.Common.{◌≡◌, ◌++◌, ◌-◌}
use Rattle.std.specs.Prelude.{◌/◌}
use Rattle.net_model.specs.Pools.{new_keys}
use Rattle.end_store.specs.Pooled.{ends_view}
use Rattle.kme_keys.proofs.fresh_keys.new_keys.Given as goal

abbrev pub invariant-loop-more : goal.invariant-loop-more
invariant-loop-more l =
    l.batch ++ new_keys (ends_view l.store) l.pool.master l.pool.slave l.route (l.pool.bits / 8) l.left l.more (l.count - l.more)
    ≡ new_keys (ends_view l.store) l.pool.master l.pool.slave l.route (l.pool.bits / 8) l.random 0 l.count
