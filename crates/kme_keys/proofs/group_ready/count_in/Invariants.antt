use Rattle.std.proofs.Common.{◌-◌}
use Rattle.net_model.specs.Decision.{last_count}
use Rattle.end_store.specs.Pooled.{ends_view}
use Rattle.kme_keys.specs.Candidates.{is_candidate}
use Rattle.kme_keys.proofs.Searched.{HasCounted}
use Rattle.kme_keys.proofs.group_ready.count_in.Given as goal

abbrev pub invariant-loop-found : goal.invariant-loop-found
invariant-loop-found l =
    HasCounted (is_candidate (ends_view l.store) l.pool.master l.pool.slaves.now l.pool.bits l.ready) l.store.known.me (last_count l.store.known.me l.store.known.facts) l.number l.after l.found

abbrev pub decreases-loop-found : goal.decreases-loop-found
decreases-loop-found l = last_count l.store.known.me l.store.known.facts - l.after
