use Rattle.std.proofs.Common.{ℕ, min, arith, ◌∙◌, ap}
use Rattle.end_store.specs.Pooled.{ends_view}
use Rattle.end_store.proofs.Counted.{stock_unhanded, no_unhanded}
use Rattle.end_store.proofs.store.EndStore.unhanded_count.Goals as goal

pub returns-in-None : goal.returns-in-None
returns-in-None c = let e = no_unhanded (ends_view c.args.self.now) c.args.pool.now c.in-None.ensures in omega arith

pub returns-in-Some : goal.returns-in-Some
returns-in-Some c = c.stock.ensures ∙ ap (λ (n : ℕ). min c.args.number n) (stock_unhanded (ends_view c.args.self.now) c.args.pool.now c.in-Some.keys c.in-Some.ensures)
