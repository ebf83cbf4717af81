use Rattle.std.proofs.Common.{◌-◌}
use Rattle.net_model.specs.Decision.{last_count}
use Rattle.end_store.proofs.Gathered.{HasFirst}
use Rattle.end_store.proofs.pools.first_ready.Given as goal

abbrev pub invariant-names : goal.invariant-names
invariant-names l = HasFirst l.store.known.me l.store.known.facts l.store.handed l.pool l.number l.after l.names.items

abbrev pub decreases-names : goal.decreases-names
decreases-names l = last_count l.store.known.me l.store.known.facts - l.after
