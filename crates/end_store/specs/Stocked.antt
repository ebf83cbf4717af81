-- The cached numbers of keys that wait for their masters.
use Rattle.std.specs.Prelude.{◌≡◌, ℕ, ◌-◌, ◌==◌, ◌&&◌, Bool, false, List, [], ◌∷◌, length, take, slice_get, count_by, Option, Some, None, if◌then◌else◌}
use Rattle.std.specs.Ordering.{nat_cmp, is_eq}
use Rattle.std.specs.Cmp.Lexicographic.{slice_cmp}
use Rattle.std.specs.Map.{lookup}
use Rattle.qkd_base.specs.Name.{Name}
use Rattle.net_model.specs.declared.fact.Fact.{Fact}
use Rattle.net_model.specs.declared.fact.Fact.TheVariants.{Key}
use Rattle.end_store.specs.declared.pool.Pool.{Pool}
use Rattle.net_model.specs.Table.{was_handed}
use Rattle.end_store.specs.Waiting.{is_free_key, pool_of}

abbrev pub pool_key : Pool → List ℕ
pool_key p = p.master ∷ p.slave ∷ p.octets ∷ []

abbrev pub pool_eq : Pool → Pool → Bool
pool_eq p q = (p.master == q.master) && (p.slave == q.slave) && (p.octets == q.octets)

-- the cached number of a pool
abbrev pub stock_at : List (List ℕ × ℕ) → Pool → Option ℕ
stock_at stocks p = lookup (λ key. is_eq (slice_cmp nat_cmp (pool_key p) key)) stocks

-- the pool now has this number or none, and all other pools keep theirs
pub record IsPut (old new : List (List ℕ × ℕ)) (p : Pool) (n : ℕ) : Type 0 where
  pub own : (m : ℕ) → stock_at new p ≡ Some m → m ≡ n
  pub others : (q : Pool) → pool_eq p q ≡ false → stock_at new q ≡ stock_at old q

-- the pool's number, if it has one, is one less
pub record IsLowered (old new : List (List ℕ × ℕ)) (p : Pool) : Type 0 where
  pub absent : stock_at old p ≡ None → new ≡ old
  pub less : (n : ℕ) → stock_at old p ≡ Some n → IsPut old new p (n - 1)

abbrev pub LowersBy : List (List ℕ × ℕ) → List (List ℕ × ℕ) → Option Pool → Type 0
LowersBy old new None = new ≡ old
LowersBy old new (Some p) = IsLowered old new p

-- each cached number is that of the pool's keys that their master hasn't got
pub record AreStocks (facts : List Fact) (handed : List (Name × ℕ)) (stocks : List (List ℕ × ℕ)) : Type 0 where
  pub right : (p : Pool) (n : ℕ) → stock_at stocks p ≡ Some n → n ≡ count_by (is_free_key handed p) facts

-- all facts but the one that was learned last
abbrev pub all_but_last : List Fact → List Fact
all_but_last facts = take (length facts - 1) facts

-- the pool of a fact, if the fact is a key of this master
abbrev pub key_pool : ℕ → Option Fact → Option Pool
key_pool sae (Some (Key name master slave route bytes)) = if master == sae then Some (pool_of master slave bytes) else None
key_pool sae _ = None

-- the pool of a fact, if the fact is a key that its master hasn't got
abbrev pub free_pool : List (Name × ℕ) → Option Fact → Option Pool
free_pool handed (Some (Key name master slave route bytes)) = if was_handed handed name master then None else Some (pool_of master slave bytes)
free_pool handed _ = None

abbrev pub last_of_facts : List Fact → Option Fact
last_of_facts facts = slice_get facts (length facts - 1)
