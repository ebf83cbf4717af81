use Rattle.std.proofs.Common.{◌-◌, true}
use Rattle.net_model.specs.Decision.{last_count}
use Rattle.end_store.specs.Pooled.{ends_view}
use Rattle.kme_keys.specs.Candidates.{is_candidate}
use Rattle.kme_keys.proofs.Searched.{HasFirst}
use Rattle.kme_keys.proofs.group_ready.first_in.Given as goal

abbrev pub invariant-names : goal.invariant-names
invariant-names l =
    HasFirst (is_candidate (ends_view l.store) l.pool.master l.pool.slaves.now l.pool.bits true) l.store.known.me (last_count l.store.known.me l.store.known.facts) l.number l.after l.names.items

abbrev pub decreases-names : goal.decreases-names
decreases-names l = last_count l.store.known.me l.store.known.facts - l.after
