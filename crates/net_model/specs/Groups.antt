-- Group keys: one key for a master and several slaves. Each slave gets it as a part of its own (ETSI GS QKD 014,
-- additional slaves).
use Rattle.std.specs.Prelude.{ℕ, zero, suc, ◌+◌, ◌*◌, ◌/◌, ◌==◌, ◌&&◌, not, nat_lt, Bool, true, false, List, [], ◌∷◌, ◌++◌, length, map, filter, find, take, drop, count_by, Option, Some, None, if◌then◌else◌}
use Rattle.std.specs.List.{list_all}
use Rattle.qkd_base.specs.Name.{Name}
use Rattle.qkd_base.specs.declared.key_name.NameKind.TheVariants.{Key as KeyKind}
use Rattle.net_model.specs.declared.fact.Fact.{Fact}
use Rattle.net_model.specs.declared.fact.Fact.TheVariants.{Part}
use Rattle.net_model.specs.declared.record.Record.{Record}
use Rattle.net_model.specs.declared.record.Record.TheVariants.{Learned}
use Rattle.net_model.specs.declared.reply.Reply.TheVariants.{MadeKeys, Handed, NoRoute, PoolFull, NotAllowed, Few}
use Rattle.net_model.specs.Table.{PartOf, part_of, is_part_of, parts_of, name_of, was_handed}
use Rattle.net_model.specs.Site.{Site}
use Rattle.net_model.specs.Routes.{route}
use Rattle.net_model.specs.View.{View}
use Rattle.net_model.specs.Decision.{Decision, Refuses, makes, fresh_name, is_confirmed}
use Rattle.net_model.specs.Pools.{own_names, bytes_or_none, hand_to}

abbrev pub goes_to : ℕ → Option PartOf → Bool
goes_to t None = false
goes_to t (Some p) = p.slave == t

abbrev pub is_part_from : ℕ → ℕ → Option PartOf → Bool
is_part_from m bits None = false
is_part_from m bits (Some p) = (p.master == m) && (8 * length p.bytes == bits)

-- the parts are for these slaves, in this order
abbrev pub same_slaves : List Fact → List ℕ → Bool
same_slaves [] [] = true
same_slaves [] (t ∷ ts) = false
same_slaves (s ∷ ss) [] = false
same_slaves (s ∷ ss) (t ∷ ts) = goes_to t (part_of s) && same_slaves ss ts

-- a group key of this master, these slaves and this size that was not handed to the master, whether or not it is ready
abbrev pub is_unhanded_group : View → ℕ → List ℕ → ℕ → Name → Bool
is_unhanded_group v m slaves bits n =
    let parts = parts_of v.facts n in
    same_slaves parts slaves && list_all (λ f. is_part_from m bits (part_of f)) parts && not (was_handed v.handed n m)

unfoldable pub unhanded_group : View → ℕ → List ℕ → ℕ → ℕ
unhanded_group v m slaves bits = count_by (is_unhanded_group v m slaves bits) (own_names v)

-- a group key is ready if all its parts are confirmed
abbrev pub is_group_ready : View → Name → Bool
is_group_ready v n = list_all (λ f. is_confirmed v (name_of f)) (parts_of v.facts n)

-- the ready group keys that were not handed to the master, in order of name
unfoldable pub group : View → ℕ → List ℕ → ℕ → List Name
group v m slaves bits = filter (λ n. is_unhanded_group v m slaves bits n && is_group_ready v n) (own_names v)

abbrev pub group_bytes : View → List Name → List (Name × List ℕ)
group_bytes v ns = map (λ n. (n, bytes_or_none (find (is_part_of n) v.facts))) ns

-- the parts of one group key, one for each slave with its route; their names count up from a given count
abbrev pub new_parts : View → Name → ℕ → List (ℕ × List ℕ) → List ℕ → ℕ → List Record
new_parts v key m [] bytes more = []
new_parts v key m (slave ∷ slaves) bytes more =
    Learned (Part (fresh_name v KeyKind more) key m slave.0 slave.1 bytes) ∷ new_parts v key m slaves bytes (more + 1)

-- k new group keys: each takes the next count of the node, and its parts take the counts after it
abbrev pub new_groups : View → ℕ → List (ℕ × List ℕ) → ℕ → List ℕ → ℕ → ℕ → List Record
new_groups v m slaves size random more zero = []
new_groups v m slaves size random more (suc k) =
    new_parts v (fresh_name v KeyKind more) m slaves (take size random) (more + 1) ++
    new_groups v m slaves size (drop size random) (more + 1 + length slaves) k

abbrev pub with_route : ℕ → Option (List ℕ) → Option (List (ℕ × List ℕ)) → Option (List (ℕ × List ℕ))
with_route s None rest = None
with_route s (Some route) None = None
with_route s (Some route) (Some rest) = Some ((s, route) ∷ rest)

-- a route to the home of each slave, or None if one of them has none
abbrev pub routes_to : Site → (ℕ → Bool) → ℕ → List ℕ → Option (List (ℕ × List ℕ))
routes_to site up me [] = Some []
routes_to site up me (s ∷ ss) = with_route s (route site up me (site.home s)) (routes_to site up me ss)

abbrev pub filled_group : View → ℕ → List ℕ → ℕ → ℕ → List ℕ → Option (List (ℕ × List ℕ)) → Decision
filled_group v m slaves bits count random None = Refuses NoRoute
filled_group v m slaves bits count random (Some routes) =
    if nat_lt 4096 (unhanded_group v m slaves bits + count) then Refuses PoolFull
    else makes v (new_groups v m routes (bits / 8) random 0 count) (MadeKeys count (fresh_name v KeyKind 0))

abbrev pub is_entitled_group : Site → View → ℕ → List ℕ → Bool
is_entitled_group site v m slaves = (site.home m == v.me) && list_all (λ s. site.allowed m s) slaves

unfoldable pub fill_group : Site → (ℕ → Bool) → View → ℕ → List ℕ → ℕ → ℕ → List ℕ → Decision
fill_group site up v m slaves bits count random =
    if not (is_entitled_group site v m slaves) then Refuses NotAllowed
    else filled_group v m slaves bits count random (routes_to site up v.me slaves)

unfoldable pub enc_group : Site → View → ℕ → List ℕ → ℕ → ℕ → Decision
enc_group site v m slaves n bits =
    let ready = group v m slaves bits in
    if not (is_entitled_group site v m slaves) then Refuses NotAllowed
    else if nat_lt (length ready) n then Refuses (Few (length ready))
    else makes v (hand_to m (take n ready)) (Handed (group_bytes v (take n ready)))
