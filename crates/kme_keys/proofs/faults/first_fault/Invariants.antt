use Rattle.std.proofs.Common.{◌≡◌, take, drop, []}
use Rattle.net_model.specs.Pools.{dec_fault}
use Rattle.end_store.specs.Pooled.{ends_view}
use Rattle.kme_keys.proofs.faults.first_fault.Given as goal

abbrev pub invariant-loop-place : goal.invariant-loop-place
invariant-loop-place l = dec_fault (ends_view l.store) l.master l.slave (take l.place l.names) (drop l.place l.names) ≡ dec_fault (ends_view l.store) l.master l.slave [] l.names
