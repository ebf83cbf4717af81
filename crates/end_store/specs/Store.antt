-- The invariant of a store: its index and its cached numbers agree with its facts.
use Rattle.std.specs.Prelude.{ℕ, List}
use Rattle.qkd_base.specs.Name.{Name}
use Rattle.net_model.specs.declared.fact.Fact.{Fact}
use Rattle.end_store.specs.Waiting.{AreWaiting}
use Rattle.end_store.specs.Stocked.{AreStocks}
use Rattle.end_store.specs.Readied.{AreReady}

-- the index has what waits, and both kinds of cached numbers are right
pub record IsStore (me : ℕ) (facts : List Fact) (handed : List (Name × ℕ)) (entries : List (List ℕ)) (listed : ℕ) (stocks readies : List (List ℕ × ℕ)) : Type 0 where
  pub waiting : AreWaiting me facts handed entries listed
  pub counted : AreStocks facts handed stocks
  pub ready : AreReady me facts handed readies
