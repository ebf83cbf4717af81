-- The items that a generated load writes.
use Rattle.std.specs.Prelude.{List, filter}
use Rattle.run_types.specs.declared.item.NumberedItem.{NumberedItem}
use Rattle.run_model.specs.Headline.{is_ledger}

abbrev pub ledgers_of : List NumberedItem → List NumberedItem
ledgers_of items = filter (λ (i : NumberedItem). is_ledger i.item) items
