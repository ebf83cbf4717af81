-- The group keys of one master for the same slaves, of one size.
use Rattle.std.specs.Prelude.{ℕ, ◌/◌, ◌%◌, ◌==◌, ◌&&◌, ◌||◌, not, Bool, true, false, filter, List, [], ◌∷◌, Option, Some, None, if◌then◌else◌}
use Rattle.std.specs.List.{list_any}
use Rattle.qkd_base.specs.Name.{Name}
use Rattle.net_model.specs.declared.fact.Fact.{Fact}
use Rattle.net_model.specs.Table.{part_of, name_of, is_stored_about}
use Rattle.net_model.specs.View.{View}
use Rattle.net_model.specs.Pools.{own_names}
use Rattle.net_model.specs.Groups.{goes_to, is_part_from, is_unhanded_group, is_group_ready}
use Rattle.end_store.specs.declared.pool.Pool.{Pool}

-- the fact is a part of this master for this slave, of this size
abbrev pub is_part_to : ℕ → ℕ → ℕ → Fact → Bool
is_part_to m bits t f = goes_to t (part_of f) && is_part_from m bits (part_of f)

abbrev pub is_part_to_at : ℕ → ℕ → ℕ → Option Fact → Bool
is_part_to_at m bits t None = false
is_part_to_at m bits t (Some f) = is_part_to m bits t f

-- the facts are parts for these slaves, in order
abbrev pub are_parts_to : ℕ → ℕ → List Fact → List ℕ → Bool
are_parts_to m bits [] [] = true
are_parts_to m bits [] (t ∷ ts) = false
are_parts_to m bits (f ∷ fs) [] = false
are_parts_to m bits (f ∷ fs) (t ∷ ts) = is_part_to m bits t f && are_parts_to m bits fs ts

-- a group key that the master hasn't got and, if `ready` is set, that is ready
abbrev pub is_candidate : View → ℕ → List ℕ → ℕ → Bool → Name → Bool
is_candidate v m slaves bits ready n = is_unhanded_group v m slaves bits n && (not ready || is_group_ready v n)

-- all such group keys, in order of name
abbrev pub candidates : View → ℕ → List ℕ → ℕ → Bool → List Name
candidates v m slaves bits ready = filter (is_candidate v m slaves bits ready) (own_names v)

-- the pool of the parts for the first slave, or none if the size isn't a multiple of 8 bits
abbrev pub first_pool : ℕ → List ℕ → ℕ → Option Pool
first_pool m [] bits = None
first_pool m (t ∷ ts) bits = if bits % 8 == 0 then Some (record { master = m; slave = t; octets = bits / 8 }) else None

-- a note among these facts confirms this fact
abbrev pub is_fact_confirmed : List Fact → Fact → Bool
is_fact_confirmed facts f = list_any (is_stored_about (name_of f)) facts

abbrev pub is_confirmed_at : List Fact → Option Fact → Bool
is_confirmed_at facts None = false
is_confirmed_at facts (Some f) = is_fact_confirmed facts f
