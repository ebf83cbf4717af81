-- The law that an object tells its item: no two items have one object.
use Rattle.std.specs.Prelude.{◌≡◌, ℕ, List}
use Rattle.hex.specs.Hex.{IsBytes}
use Rattle.run_types.specs.declared.item.Item.{Item}
use Rattle.run_types.specs.declared.item.Item.TheVariants as items
use Rattle.run_types.specs.declared.item.NumberedItem.{NumberedItem}
use Rattle.report_grammar.specs.Tellable.{CanTell}
use Rattle.report_json.specs.Objects.{object_of}

-- The body of a response has octets.
abbrev pub HasOctets : Item → Type 0
HasOctets (items.Http v status body) = IsBytes body
HasOctets _ = Unit {0}

-- Items that a report can tell are the same if their objects are.
abbrev pub ObjectsTell : Type 0
ObjectsTell =
    (nodes : List (List ℕ)) (round other : ℕ) (a b : NumberedItem) → CanTell nodes a → HasOctets a.item → CanTell nodes b → HasOctets b.item
    → object_of nodes round a ≡ object_of nodes other b → a ≡ b
