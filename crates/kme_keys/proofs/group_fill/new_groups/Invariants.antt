use Rattle.std.proofs.Common.{◌≡◌, ◌-◌, ◌≤◌, ◌^◌, ◌++◌}
use Rattle.std.specs.Prelude.{◌/◌}
use Rattle.net_model.specs.Groups.{new_groups}
use Rattle.end_store.specs.Pooled.{ends_view}
use Rattle.kme_keys.proofs.group_fill.new_groups.Given as goal

abbrev pub invariant-loop-turn : goal.invariant-loop-turn
invariant-loop-turn l = record {
  keys : l.batch ++ new_groups (ends_view l.store) l.pool.master l.routes (l.pool.bits / 8) l.left l.more (l.count - l._turn) ≡ new_groups (ends_view l.store) l.pool.master l.routes (l.pool.bits / 8) l.random 0 l.count;
  bound : l.more ≤ 2 ^ 48;
}
