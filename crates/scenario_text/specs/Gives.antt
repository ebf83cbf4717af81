-- The answer of a call agrees with the meaning of the words: it gives this meaning, or refuses words that have none.
-- When memory runs out, nothing is claimed.
use Rattle.std.specs.Prelude.{◌≡◌, Option, Some, None, Result, Ok, Err}
use Rattle.declared_site.specs.declared.site.Site.{Site}
use Rattle.scenario_text.specs.declared.refusal.LineRefusal.{LineRefusal}
use Rattle.scenario_text.specs.declared.refusal.LineRefusal.TheVariants.{Refused, Memory}

abbrev pub Gives : {X : Type 0} → Option X → Result X LineRefusal → Type 0
Gives means (Ok given) = means ≡ Some given
Gives means (Err Refused) = means ≡ None
Gives means (Err Memory) = Unit {0}

-- the site after a line; a line that is refused leaves it unchanged
abbrev pub Declares : Option Site → Site → Site → Result Unit LineRefusal → Type 0
Declares means old new (Ok done) = means ≡ Some new
Declares means old new (Err Refused) = (means ≡ None) × (new ≡ old)
Declares means old new (Err Memory) = new ≡ old

-- what was read after a line, unless memory ran out; a line that is refused leaves it unchanged
abbrev pub Reads : {X : Type 0} → Option X → X → X → Result Unit LineRefusal → Type 0
Reads means old new (Ok done) = means ≡ Some new
Reads means old new (Err Refused) = (means ≡ None) × (new ≡ old)
Reads means old new (Err Memory) = Unit {0}
