use Rattle.std.proofs.Common.{◌≡◌, ◌+◌, ◌≤◌, ◌^◌, ◌++◌, drop}
use Rattle.net_model.specs.Groups.{new_parts}
use Rattle.end_store.specs.Pooled.{ends_view}
use Rattle.kme_keys.proofs.group_fill.push_parts.Given as goal

abbrev pub invariant-loop-routed : goal.invariant-loop-routed
invariant-loop-routed l = record {
  parts : l.batch ++ new_parts (ends_view l.store) l.key l.master (drop l.routed-index l.routes) l.bytes l.next ≡ l.fn.batch ++ new_parts (ends_view l.store) l.key l.master l.routes l.bytes l.more;
  next : l.next ≡ l.more + l.routed-index;
  bound : l.next ≤ 2 ^ 48;
}
