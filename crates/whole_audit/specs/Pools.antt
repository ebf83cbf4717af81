-- Rule 13, as to numbers: no more keys of a pair and a size are ready than were made and not handed to their master.
use Rattle.std.specs.Prelude.{ℕ, ◌+◌, Bool, true, nat_le, if◌then◌else◌, List, [], ◌∷◌, Option, Some, None}
use Rattle.run_types.specs.declared.scenario.Scenario.{Scenario}
use Rattle.run_types.specs.declared.item.NumberedItem.{NumberedItem}
use Rattle.item_audit.specs.declared.stocks.Pool.{Pool}
use Rattle.item_audit.specs.declared.stocks.Change.{Change}
use Rattle.item_audit.specs.Gifts.{bounded}
use Rattle.item_audit.specs.Stocks.{pool_eq, change_if, ready_if}
use Rattle.whole_audit.specs.declared.pools.Stock.{Stock}
use Rattle.whole_audit.specs.Lines.{command_at}

abbrev pub no_stock : Stock
no_stock = record { made = 0; handed = 0 }

abbrev pub stock_with : Change → Stock → Stock
stock_with c k = record { made = bounded (k.made + c.made); handed = bounded (k.handed + c.handed) }

abbrev pub stock_behind : Option Change → Pool → Stock → Stock
stock_behind None p k = k
stock_behind (Some c) p k = if pool_eq c.pool p then stock_with c k else k

abbrev pub change : Scenario → NumberedItem → Option Change
change s t = change_if (command_at s t.number) t.item

-- how many keys of the pool may have been made, and how many were handed to their master
abbrev pub stock_of : Scenario → Pool → List NumberedItem → Stock
stock_of s p [] = no_stock
stock_of s p (t ∷ before) = stock_behind (change s t) p (stock_of s p before)

-- ---- the rule

abbrev pub ready : Scenario → NumberedItem → Option Change
ready s t = ready_if (command_at s t.number) t.item

abbrev pub is_covered : (handed : ℕ) → Stock → Bool
is_covered handed k = nat_le (k.handed + handed) k.made

abbrev pub is_in_stock : Option Change → (stock : Pool → Stock) → Bool
is_in_stock None stock = true
is_in_stock (Some c) stock = is_covered c.handed (stock c.pool)
