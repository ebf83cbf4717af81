-- The call returns the value that the words have, or an error if they have none. In both cases memory may run out instead.
use Rattle.std.specs.Prelude.{◌≡◌, Option, Some, None, Result, Ok, Err}
use Rattle.run_types.specs.declared.item.NumberedItem.{NumberedItem}
use Rattle.report_grammar.specs.declared.refusal.LineRefusal.{LineRefusal}
use Rattle.report_grammar.specs.declared.refusal.LineRefusal.TheVariants.{NotALine, Memory}

abbrev pub Gives : {X : Type 0} → Option X → Result X LineRefusal → Type 0
Gives means (Ok given) = means ≡ Some given
Gives means (Err NotALine) = means ≡ None
Gives means (Err Memory) = Unit {0}

-- The line was read as this, or memory ran out.
abbrev pub IsRead : NumberedItem → Result NumberedItem LineRefusal → Type 0
IsRead told (Ok read) = read ≡ told
IsRead told (Err NotALine) = ⊥
IsRead told (Err Memory) = Unit {0}
