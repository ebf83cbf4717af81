-- The keys of a master and a slave: fill, enc, dec and status (ETSI GS QKD 014).
use Rattle.std.specs.Prelude.{ℕ, zero, suc, ◌+◌, ◌*◌, ◌/◌, ◌==◌, ◌&&◌, not, nat_lt, Bool, false, List, [], ◌∷◌, ◌++◌, length, map, filter, find, take, drop, is_some, count_by, Option, Some, None, if◌then◌else◌}
use Rattle.qkd_base.specs.Name.{Name, name_eq, has}
use Rattle.qkd_base.specs.declared.key_name.NameKind.{NameKind}
use Rattle.qkd_base.specs.declared.key_name.NameKind.TheVariants.{Key as KeyKind}
use Rattle.net_model.specs.declared.fact.Fact.{Fact}
use Rattle.net_model.specs.declared.fact.Fact.TheVariants.{Key, Part}
use Rattle.net_model.specs.declared.record.Record.{Record}
use Rattle.net_model.specs.declared.record.Record.TheVariants.{Learned, Handed as Handed'}
use Rattle.net_model.specs.declared.reply.Reply.{Reply}
use Rattle.net_model.specs.declared.reply.Reply.TheVariants.{MadeKeys, Handed, NoRoute, PoolFull, Unknown, Repeated, AlreadyHanded, NotAllowed, Few, ReadyCount}
use Rattle.net_model.specs.Table.{name_of, bytes_of, fact_at, was_handed}
use Rattle.net_model.specs.Site.{Site}
use Rattle.net_model.specs.Routes.{route}
use Rattle.net_model.specs.View.{View}
use Rattle.net_model.specs.Decision.{Decision, Refuses, answers, makes, last_count, fresh_name, is_confirmed}

-- the pair is allowed, and the caller is at home here
abbrev pub is_entitled : Site → View → ℕ → ℕ → ℕ → Bool
is_entitled site v caller m s = site.allowed m s && (site.home caller == v.me)

-- the names of one kind that a node may have given, in order of count
abbrev pub names_up_to : ℕ → NameKind → ℕ → List Name
names_up_to me kind zero = []
names_up_to me kind (suc c) = names_up_to me kind c ++ record { node = me; kind = kind; count = c + 1 } ∷ []

-- the names of keys that this node may have given
abbrev pub own_names : View → List Name
own_names v = names_up_to v.me KeyKind (last_count v.me v.facts)

abbrev pub is_key_of : ℕ → ℕ → ℕ → Option Fact → Bool
is_key_of m s bits (Some (Key name master slave route bytes)) = (master == m) && (slave == s) && (8 * length bytes == bits)
is_key_of m s bits _ = false

-- a ready key of this master, slave and size that was not handed to the master
abbrev pub is_in_pool : View → ℕ → ℕ → ℕ → Name → Bool
is_in_pool v m s bits n = is_key_of m s bits (fact_at v.facts n) && is_confirmed v n && not (was_handed v.handed n m)

-- the keys of a pool, in order of name
unfoldable pub pool : View → ℕ → ℕ → ℕ → List Name
pool v m s bits = filter (is_in_pool v m s bits) (own_names v)

-- how many keys of a pool were not handed to the master, whether or not they are ready
unfoldable pub unhanded : View → ℕ → ℕ → ℕ → ℕ
unhanded v m s bits = count_by (λ f. is_key_of m s bits (Some f) && not (was_handed v.handed (name_of f) m)) v.facts

abbrev pub bytes_or_none : Option Fact → List ℕ
bytes_or_none None = []
bytes_or_none (Some f) = bytes_of f

abbrev pub with_bytes : View → List Name → List (Name × List ℕ)
with_bytes v ns = map (λ n. (n, bytes_or_none (fact_at v.facts n))) ns

abbrev pub hand_to : ℕ → List Name → List Record
hand_to sae ns = map (λ n. Handed' n sae) ns

-- k new keys, each with the next of the octets that were drawn
abbrev pub new_keys : View → ℕ → ℕ → List ℕ → ℕ → List ℕ → ℕ → ℕ → List Record
new_keys v m s route size random more zero = []
new_keys v m s route size random more (suc k) =
    Learned (Key (fresh_name v KeyKind more) m s route (take size random)) ∷ new_keys v m s route size (drop size random) (more + 1) k

abbrev pub filled : View → ℕ → ℕ → ℕ → ℕ → List ℕ → Option (List ℕ) → Decision
filled v m s bits count random None = Refuses NoRoute
filled v m s bits count random (Some route) =
    if nat_lt 4096 (unhanded v m s bits + count) then Refuses PoolFull
    else makes v (new_keys v m s route (bits / 8) random 0 count) (MadeKeys count (fresh_name v KeyKind 0))

unfoldable pub fill : Site → (ℕ → Bool) → View → ℕ → ℕ → ℕ → ℕ → List ℕ → Decision
fill site up v m s bits count random =
    if not (is_entitled site v m m s) then Refuses NotAllowed else filled v m s bits count random (route site up v.me (site.home s))

-- the first n ready keys, or, if there are fewer, how many there are
unfoldable pub enc : Site → View → ℕ → ℕ → ℕ → ℕ → Decision
enc site v m s n bits =
    let ready = pool v m s bits in
    if not (is_entitled site v m m s) then Refuses NotAllowed
    else if nat_lt (length ready) n then Refuses (Few (length ready))
    else makes v (hand_to m (take n ready)) (Handed (with_bytes v (take n ready)))

-- the fact from which a slave gets a key of this name: the Key, or the Part of a group key for this slave
abbrev pub is_for : ℕ → ℕ → Name → Fact → Bool
is_for m s n (Key name master slave route bytes) = name_eq name n && (master == m) && (slave == s)
is_for m s n (Part name key master slave route bytes) = name_eq key n && (master == m) && (slave == s)
is_for m s n _ = false

abbrev pub for_slave : View → ℕ → ℕ → Name → Option Fact
for_slave v m s n = find (is_for m s n) v.facts

-- the refusal for the first name that has a fault
abbrev pub dec_fault : View → ℕ → ℕ → List Name → List Name → Option Reply
dec_fault v m s before [] = None
dec_fault v m s before (n ∷ ns) =
    if not (is_some (for_slave v m s n)) then Some (Unknown (length before))
    else if has before n then Some (Repeated (length before))
    else if was_handed v.handed n s then Some (AlreadyHanded (length before))
    else dec_fault v m s (before ++ n ∷ []) ns

abbrev pub slave_bytes : View → ℕ → ℕ → List Name → List (Name × List ℕ)
slave_bytes v m s ns = map (λ n. (n, bytes_or_none (for_slave v m s n))) ns

abbrev pub decs : View → ℕ → ℕ → List Name → Option Reply → Decision
decs v m s ns (Some fault) = Refuses fault
decs v m s ns None = makes v (hand_to s ns) (Handed (slave_bytes v m s ns))

-- all of the named keys, or none
unfoldable pub dec : Site → View → ℕ → ℕ → List Name → Decision
dec site v s m ns = if not (is_entitled site v s m s) then Refuses NotAllowed else decs v m s ns (dec_fault v m s [] ns)

-- how many keys of the default size are ready
unfoldable pub status : Site → View → ℕ → ℕ → Decision
status site v m s = if not (is_entitled site v m m s) then Refuses NotAllowed else answers v (ReadyCount (length (pool v m s 256)))
