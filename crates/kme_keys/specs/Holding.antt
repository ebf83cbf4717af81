-- Which fact has the bytes of a key that is handed out.
use Rattle.std.specs.Prelude.{ℕ, ◌==◌, ◌&&◌, not, Bool, false, List, length, find, map, is_some, Option, Some, None, if◌then◌else◌}
use Rattle.qkd_base.specs.Name.{Name, name_eq, has}
use Rattle.net_model.specs.declared.fact.Fact.{Fact}
use Rattle.net_model.specs.declared.fact.Fact.TheVariants.{Key, Part}
use Rattle.net_model.specs.Table.{fact_at, is_part_of, was_handed}
use Rattle.net_model.specs.declared.reply.Reply.{Reply}
use Rattle.net_model.specs.declared.reply.Reply.TheVariants.{Unknown, Repeated, AlreadyHanded}
use Rattle.net_model.specs.View.{View}
use Rattle.net_model.specs.Pools.{is_for, for_slave, bytes_or_none}
use Rattle.kme_keys.specs.declared.holder.Holder.{Holder}
use Rattle.kme_keys.specs.declared.holder.Holder.TheVariants.{Named, ForSlave, Group}

abbrev pub held_fact : Holder → List Fact → Name → Option Fact
held_fact Named facts n = fact_at facts n
held_fact (ForSlave master slave) facts n = find (is_for master slave n) facts
held_fact Group facts n = find (is_part_of n) facts

-- the names with the bytes that their facts have
abbrev pub held_keys : Holder → List Fact → List Name → List (Name × List ℕ)
held_keys h facts ns = map (λ n. (n, bytes_or_none (held_fact h facts n))) ns

-- the two kinds of facts by which a slave has a key

abbrev pub is_key_for : ℕ → ℕ → Name → Fact → Bool
is_key_for m s n (Key name master slave route bytes) = name_eq name n && (master == m) && (slave == s)
is_key_for m s n _ = false

abbrev pub is_part_for : ℕ → ℕ → Name → Fact → Bool
is_part_for m s n (Part name key master slave route bytes) = name_eq key n && (master == m) && (slave == s)
is_part_for m s n _ = false

abbrev pub passes_at : (Fact → Bool) → Option Fact → Bool
passes_at test None = false
passes_at test (Some f) = test f

-- the fault of a name, given the names before it in the request
abbrev pub name_fault : View → ℕ → ℕ → List Name → Name → Option Reply
name_fault v m s before n =
    if not (is_some (for_slave v m s n)) then Some (Unknown (length before))
    else if has before n then Some (Repeated (length before))
    else if was_handed v.handed n s then Some (AlreadyHanded (length before))
    else None
