use Rattle.std.proofs.Common.{◌≡◌, ap, sym, ◌∙◌}
use Rattle.run_audit.proofs.Recording.{on_ok_map}
use Rattle.whole_audit.specs.declared.pools.Stock.{Stock}
use Rattle.whole_audit.specs.Pools.{stock_with, stock_of}
use Rattle.whole_audit.proofs.Pooling.{stocked_none, stocked_some}
use Rattle.whole_audit.proofs.pools.Pools.learn.Goals as goal

pub returns-in-Some : goal.returns-in-Some
returns-in-Some c s told before is stocked =
    let behind : c.stock_with-stock.result ≡ stock_with c.in-Some.change (stock_of s c.in-Some.change.pool before) =
    c.stock_with-stock.ensures ∙ ap (λ (k : Stock). stock_with c.in-Some.change k) (c.at.ensures ∙ stocked c.in-Some.change.pool) in
    on_ok_map c.put.result (λ put. stocked_some s c.args.self.now c.put.new.self c.in-Some.change told before (sym c.in-Some.is ∙ is) stocked c.stock_with-stock.result behind put) c.put.ensures

pub returns-in-None : goal.returns-in-None
returns-in-None c s told before is stocked = stocked_none s c.args.self.now told before (sym c.in-None.is ∙ is) stocked
