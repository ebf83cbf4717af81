use Rattle.std.proofs.Common.{List, ℕ, Some, subst}
use Rattle.std.specs.Ordering.{nat_cmp}
use Rattle.std.specs.Cmp.Lexicographic.{slice_cmp}
use Rattle.std.specs.BTreeMap.{Updates}
use Rattle.whole_audit.specs.declared.pools.Pools.{Pools}
use Rattle.whole_audit.proofs.Pooling.{stocks_put}
use Rattle.whole_audit.proofs.pools.Pools.put.Goals as goal

pub returns : goal.returns
returns c =
    let new : Pools = record { stocks = c.insert.new.self } in
    stocks_put c.args.self.now new c.args.pool.now c.args.stock
    (subst (λ (key : List ℕ). Updates (slice_cmp nat_cmp) c.args.self.now.stocks c.insert.new.self key (Some c.args.stock)) c.pool_key.ensures c.in_ok-insert.ensures.updates)
