-- Which applications may ask a node for keys.
use Rattle.std.specs.Prelude.{ℕ, ◌==◌, Bool, false, ◌&&◌, List, Option, Some, None}
use Rattle.std.specs.List.{list_all}
use Rattle.sae_entitlements.specs.Grants.{Grants, home_of}
use Rattle.run_audit.specs.Tellings.{is_entitled}

abbrev pub is_node : (node : ℕ) → Option ℕ → Bool
is_node v None = false
is_node v (Some home) = home == v

-- The application is at home at the node.
abbrev pub is_at_home : Grants → (node sae : ℕ) → Bool
is_at_home g v sae = is_node v (home_of g sae)

-- The caller is at home at the node, and the master may have keys for the slave.
abbrev pub may_ask : Grants → (node caller master slave : ℕ) → Bool
may_ask g v caller master slave = is_at_home g v caller && is_entitled g master slave

-- The master may have keys for each of the slaves.
abbrev pub may_share : Grants → (master : ℕ) → (slaves : List ℕ) → Bool
may_share g master slaves = list_all (is_entitled g master) slaves
