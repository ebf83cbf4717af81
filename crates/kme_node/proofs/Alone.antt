-- Batches without blocks.
use Rattle.std.proofs.Common.{ℕ, zero, suc, ◌+◌, true, false, List, [], ◌∷◌, ◌++◌, length, take, drop, sym, subst}
use Rattle.std.specs.Prelude.{nat_lt, if◌then◌else◌}
use Rattle.std.specs.List.{flat_map, AllByRecursion}
use Rattle.std.proofs.lemmas.List.Concat.{flat_map-cons}
use Rattle.qkd_base.specs.Name.{Name}
use Rattle.qkd_base.specs.declared.key_name.NameKind.TheVariants.{Key as KeyKind}
use Rattle.net_model.specs.declared.record.Record.{Record}
use Rattle.net_model.specs.declared.record.Record.TheVariants.{Block, Lease, Learned, Acked, Handed, Closed, Bare}
use Rattle.net_model.specs.Site.{Site}
use Rattle.net_model.specs.View.{View, Port, received_of}
use Rattle.net_model.specs.Decision.{fresh_name}
use Rattle.net_model.specs.Pools.{hand_to, new_keys}
use Rattle.net_model.specs.Streams.{new_chunks}
use Rattle.net_model.specs.Groups.{new_parts, new_groups}
use Rattle.net_model.specs.Plan.{leases_on, end_on, raise}
use Rattle.kme_node.specs.Holdings.{HasBlocksAlone}

abbrev IsNoBlock : Record → Type 0
IsNoBlock (Block link number bytes) = ⊥
IsNoBlock _ = Unit {0}

abbrev AreNoBlocks : List Record → Type 0
AreNoBlocks rs = AllByRecursion IsNoBlock rs

without_block : (rs : List Record) → AreNoBlocks rs → HasBlocksAlone rs
without_block [] none = tt
without_block (Lease _ _ ∷ rs) none = without_block rs none.1
without_block (Learned _ ∷ rs) none = without_block rs none.1
without_block (Acked _ ∷ rs) none = without_block rs none.1
without_block (Handed _ _ ∷ rs) none = without_block rs none.1
without_block (Closed _ _ ∷ rs) none = without_block rs none.1
without_block (Bare _ ∷ rs) none = without_block rs none.1
without_block (Block _ _ _ ∷ rs) none = absurd none.0

both : (rs qs : List Record) → AreNoBlocks rs → AreNoBlocks qs → AreNoBlocks (rs ++ qs)
both [] qs a b = b
both (r ∷ rs) qs a b = (a.0, both rs qs a.1 b)

-- records of keys that are handed out or made

handings : (sae : ℕ) (ns : List Name) → AreNoBlocks (hand_to sae ns)
handings sae [] = tt
handings sae (n ∷ ns) = (tt, handings sae ns)

pub alone_handings : (sae : ℕ) (ns : List Name) → HasBlocksAlone (hand_to sae ns)
alone_handings sae ns = without_block (hand_to sae ns) (handings sae ns)

keys : (v : View) (m s : ℕ) (route : List ℕ) (size : ℕ) (random : List ℕ) (more k : ℕ) → AreNoBlocks (new_keys v m s route size random more k)
keys v m s route size random more zero = tt
keys v m s route size random more (suc k) = (tt, keys v m s route size (drop size random) (more + 1) k)

pub alone_keys : (v : View) (m s : ℕ) (route : List ℕ) (size : ℕ) (random : List ℕ) (more k : ℕ) → HasBlocksAlone (new_keys v m s route size random more k)
alone_keys v m s route size random more k = without_block (new_keys v m s route size random more k) (keys v m s route size random more k)

chunks : (v : View) (stream : Name) (route : List ℕ) (size next : ℕ) (random : List ℕ) (more k : ℕ) → AreNoBlocks (new_chunks v stream route size next random more k)
chunks v stream route size next random more zero = tt
chunks v stream route size next random more (suc k) = (tt, chunks v stream route size next (drop size random) (more + 1) k)

pub alone_chunks : (v : View) (stream : Name) (route : List ℕ) (size next : ℕ) (random : List ℕ) (more k : ℕ) → HasBlocksAlone (new_chunks v stream route size next random more k)
alone_chunks v stream route size next random more k = without_block (new_chunks v stream route size next random more k) (chunks v stream route size next random more k)

parts : (v : View) (key : Name) (m : ℕ) (slaves : List (ℕ × List ℕ)) (bytes : List ℕ) (more : ℕ) → AreNoBlocks (new_parts v key m slaves bytes more)
parts v key m [] bytes more = tt
parts v key m (s ∷ slaves) bytes more = (tt, parts v key m slaves bytes (more + 1))

groups : (v : View) (m : ℕ) (slaves : List (ℕ × List ℕ)) (size : ℕ) (random : List ℕ) (more k : ℕ) → AreNoBlocks (new_groups v m slaves size random more k)
groups v m slaves size random more zero = tt
groups v m slaves size random more (suc k) =
    both (new_parts v (fresh_name v KeyKind more) m slaves (take size random) (more + 1)) (new_groups v m slaves size (drop size random) (more + 1 + length slaves) k)
    (parts v (fresh_name v KeyKind more) m slaves (take size random) (more + 1)) (groups v m slaves size (drop size random) (more + 1 + length slaves) k)

pub alone_groups : (v : View) (m : ℕ) (slaves : List (ℕ × List ℕ)) (size : ℕ) (random : List ℕ) (more k : ℕ) → HasBlocksAlone (new_groups v m slaves size random more k)
alone_groups v m slaves size random more k = without_block (new_groups v m slaves size random more k) (groups v m slaves size random more k)

-- records of leases

module _ (site : Site) (v : View) where
  leases_of : (p : Port) → AreNoBlocks (leases_on site v p)
  leases_of p = elim (nat_lt p.lease (end_on site v p)) as (λ t. AreNoBlocks (if t then Lease p.lane (raise (end_on site v p) (received_of p)) ∷ [] else [])) [ true ↦ (tt, tt) | false ↦ tt ]

  leases : (ports : List Port) → AreNoBlocks (flat_map (leases_on site v) ports)
  leases [] = tt
  leases (p ∷ ps) = subst AreNoBlocks (sym (flat_map-cons (leases_on site v) p ps)) (both (leases_on site v p) _ (leases_of p) (leases ps))

  pub alone_leases : (ports : List Port) → HasBlocksAlone (flat_map (leases_on site v) ports)
  alone_leases ports = without_block (flat_map (leases_on site v) ports) (leases ports)
