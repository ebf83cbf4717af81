use Rattle.std.proofs.Common.{◌-◌}
use Rattle.end_store.proofs.Counted.{HasStock}
use Rattle.end_store.proofs.stock_counts.count_stock.Given as goal

abbrev pub invariant-loop-count : goal.invariant-loop-count
invariant-loop-count l = HasStock l.known.me l.known.facts l.handed.pairs l.pool l.number l.from l.count

abbrev pub decreases-loop-count : goal.decreases-loop-count
decreases-loop-count l = l.number - l.count
