use Rattle.std.proofs.Common.{◌-◌}
use Rattle.net_model.specs.Decision.{last_count}
use Rattle.end_store.proofs.Gathered.{HasCounted}
use Rattle.end_store.proofs.ready_counts.count_ready.Given as goal

abbrev pub invariant-loop-ready : goal.invariant-loop-ready
invariant-loop-ready l = HasCounted l.known.me l.known.facts l.handed.pairs l.pool l.number l.after l.ready

abbrev pub decreases-loop-ready : goal.decreases-loop-ready
decreases-loop-ready l = last_count l.known.me l.known.facts - l.after
