-- Tables whose keys are short lists of numbers.
use Rattle.std.specs.Prelude.{ℕ, List, Option}
use Rattle.std.specs.Ordering.{nat_cmp}
use Rattle.std.specs.Cmp.Lexicographic.{slice_cmp}
use Rattle.std.specs.BTreeMap.{BTreeMap, get}

abbrev pub at : {X : Type 0} → BTreeMap (List ℕ) X → List ℕ → Option X
at m key = get (slice_cmp nat_cmp) m key
