-- The cached numbers of ready keys.
use Rattle.std.specs.Prelude.{◌≡◌, ℕ, ◌&&◌, not, List, length, Option, Some, None, if◌then◌else◌}
use Rattle.std.specs.List.{list_any}
use Rattle.qkd_base.specs.Name.{Name}
use Rattle.net_model.specs.declared.fact.Fact.{Fact}
use Rattle.net_model.specs.declared.fact.Fact.TheVariants.{Key, Stored}
use Rattle.net_model.specs.Table.{was_handed, fact_at, is_stored_about}
use Rattle.end_store.specs.declared.pool.Pool.{Pool}
use Rattle.end_store.specs.Waiting.{is_own, pool_of}
use Rattle.end_store.specs.Pooled.{ready_names}
use Rattle.end_store.specs.Stocked.{stock_at, free_pool, key_pool}

-- each cached number is that of the pool's ready keys
pub record AreReady (me : ℕ) (facts : List Fact) (handed : List (Name × ℕ)) (readies : List (List ℕ × ℕ)) : Type 0 where
  pub right : (p : Pool) (n : ℕ) → stock_at readies p ≡ Some n → n ≡ length (ready_names me facts handed p)

-- The pool in which a key becomes ready when a new fact is learned. The fact is either a key that is confirmed already, or the first note
-- that confirms a known key.
abbrev pub readied_pool : ℕ → List Fact → List (Name × ℕ) → Option Fact → Option Pool
readied_pool me facts handed (Some (Key name m s route bytes)) =
    if is_own me name && list_any (is_stored_about name) facts && not (was_handed handed name m) then Some (pool_of m s bytes) else None
readied_pool me facts handed (Some (Stored note about route)) =
    if is_own me about && not (list_any (is_stored_about about) facts) then free_pool handed (fact_at facts about) else None
readied_pool me facts handed _ = None

-- this pool, if the key of this name is ready
abbrev pub ready_pool : ℕ → List Fact → Name → Option Pool → Option Pool
ready_pool me facts n o = if is_own me n && list_any (is_stored_about n) facts then o else None

-- the pool of the key of this name, if the key is ready and this application is its master
abbrev pub ready_pool_of : ℕ → List Fact → Name → ℕ → Option Pool
ready_pool_of me facts n sae = ready_pool me facts n (key_pool sae (fact_at facts n))
