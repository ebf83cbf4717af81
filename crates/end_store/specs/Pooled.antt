-- The pools of a manager's view, found in its store.
use Rattle.std.specs.Prelude.{◌≡◌, ℕ, ◌/◌, ◌%◌, ◌==◌, Bool, List, [], filter, Option, Some, None, if◌then◌else◌}
use Rattle.qkd_base.specs.Name.{Name}
use Rattle.qkd_base.specs.declared.key_name.NameKind.TheVariants.{Key as KeyKind}
use Rattle.qkd_base.specs.declared.pool_no.PoolNo.{PoolNo}
use Rattle.net_model.specs.declared.fact.Fact.{Fact}
use Rattle.net_model.specs.Decision.{last_count}
use Rattle.net_model.specs.Pools.{names_up_to}
use Rattle.net_model.specs.World.{no_volatile}
use Rattle.net_model.specs.View.{View}
use Rattle.end_store.specs.declared.pool.Pool.{Pool}
use Rattle.end_store.specs.declared.pool.Line.TheVariants.{Keys}
use Rattle.end_store.specs.Waiting.{Ends, is_waiting}

-- the view of a store: it has no lanes, and nothing of the state that a crash loses
abbrev pub ends_view : Ends → View
ends_view e =
    record {
      me = e.known.me;
      facts = e.known.facts;
      acked = e.known.acked;
      handed = e.handed;
      closed = [];
      ports = [];
      volatile = no_volatile;
    }

-- a view agrees with a store in what the store keeps
pub record Sees (v : View) (e : Ends) : Type 0 where
  pub me : v.me ≡ e.known.me
  pub facts : v.facts ≡ e.known.facts
  pub acked : v.acked ≡ e.known.acked
  pub handed : v.handed ≡ e.handed

-- the pool with its size in octets, or none if the size isn't a multiple of 8 bits
abbrev pub octets_pool : PoolNo → Option Pool
octets_pool p = if p.bits % 8 == 0 then Some (record { master = p.master; slave = p.slave; octets = p.bits / 8 }) else None

-- the key of this name waits in the pool and is confirmed
abbrev pub is_ready : ℕ → List Fact → List (Name × ℕ) → Pool → Name → Bool
is_ready me facts handed p n = is_waiting me facts handed (Keys p) n.count

abbrev pub ready_names : ℕ → List Fact → List (Name × ℕ) → Pool → List Name
ready_names me facts handed p = filter (is_ready me facts handed p) (names_up_to me KeyKind (last_count me facts))
