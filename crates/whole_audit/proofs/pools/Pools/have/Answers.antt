use Rattle.std.proofs.Common.{Option, ap, sym, ◌∙◌}
use Rattle.item_audit.specs.declared.stocks.Change.{Change}
use Rattle.whole_audit.specs.declared.pools.Stock.{Stock}
use Rattle.whole_audit.specs.Pools.{stock_of, is_covered, is_in_stock}
use Rattle.whole_audit.proofs.pools.Pools.have.Goals as goal

pub returns-in-Some : goal.returns-in-Some
returns-in-Some c s before stocked =
    c.is_covered.ensures
    ∙ ap (λ (k : Stock). is_covered c.in-Some.ready.handed k) (c.at.ensures ∙ stocked c.in-Some.ready.pool)
    ∙ ap (λ (o : Option Change). is_in_stock o (λ p. stock_of s p before)) (sym c.in-Some.is)
