-- Keys that wait for their masters, and the index in which they are found.
use Rattle.std.specs.Prelude.{◌≡◌, ℕ, ◌<◌, ◌≤◌, ◌==◌, ◌&&◌, ◌||◌, not, if◌then◌else◌, nat_le, Bool, true, false, List, [], ◌∷◌, length, take, slice_get, Option, Some, None}
use Rattle.std.specs.List.{list_any}
use Rattle.std.specs.Str.{bytes_eq}
use Rattle.qkd_base.specs.Name.{Name, name_eq, kind_eq}
use Rattle.qkd_base.specs.declared.key_name.NameKind.TheVariants.{Key as KeyKind}
use Rattle.net_model.specs.declared.fact.Fact.{Fact}
use Rattle.net_model.specs.declared.fact.Fact.TheVariants.{Key, Part, Stored}
use Rattle.net_model.specs.Table.{was_handed, fact_at, is_stored_about}
use Rattle.ordered_set.specs.Entries.{has_entry}
use Rattle.relay_core.specs.Index.{tagged}
use Rattle.relay_core.specs.Knowledge.{Knowledge}
use Rattle.end_store.specs.declared.pool.Pool.{Pool}
use Rattle.end_store.specs.declared.pool.Line.{Line}
use Rattle.end_store.specs.declared.pool.Line.TheVariants.{Stock, Keys, Parts}

-- what a node knows, which application has got which key, and for how many more of these pairs there is room
pub record Ends : Type 0 where
  pub known : Knowledge
  pub handed : List (Name × ℕ)
  pub handed_spare : ℕ

-- the name of a key that this node makes, with this count
abbrev pub own : ℕ → ℕ → Name
own me c = record { node = me; kind = KeyKind; count = c }

abbrev pub is_in : Pool → ℕ → ℕ → List ℕ → Bool
is_in p m s bytes = (m == p.master) && (s == p.slave) && (length bytes == p.octets)

-- the fact is a key of the pool that its master hasn't got
abbrev pub is_free_key : List (Name × ℕ) → Pool → Fact → Bool
is_free_key handed p (Key name m s route bytes) = is_in p m s bytes && not (was_handed handed name m)
is_free_key handed p _ = false

abbrev pub is_free_key_at : List (Name × ℕ) → Pool → Option Fact → Bool
is_free_key_at handed p None = false
is_free_key_at handed p (Some f) = is_free_key handed p f

-- the fact is a part, in the pool, of the group key of this name
abbrev pub is_part_in : Pool → Name → Fact → Bool
is_part_in p n (Part name key m s route bytes) = name_eq key n && is_in p m s bytes
is_part_in p n _ = false

abbrev pub is_part_in_at : Pool → Name → Option Fact → Bool
is_part_in_at p n None = false
is_part_in_at p n (Some f) = is_part_in p n f

-- Something waits for its master at a count of a list. In the stock of a pool, the count is a place in the list of facts. Ready keys and
-- parts of group keys have the counts of the names that this node gave, from 1 on. A key is ready once it is confirmed.
abbrev pub is_waiting : ℕ → List Fact → List (Name × ℕ) → Line → ℕ → Bool
is_waiting me facts handed (Stock p) c = is_free_key_at handed p (slice_get facts c)
is_waiting me facts handed (Keys p) c = nat_le 1 c && is_free_key_at handed p (fact_at facts (own me c)) && list_any (is_stored_about (own me c)) facts
is_waiting me facts handed (Parts p) c = nat_le 1 c && list_any (is_part_in p (own me c)) facts && not (was_handed handed (own me c) p.master)

-- the least count of a list, not below `from`, at which something waits
pub record IsNextWaiting (me : ℕ) (facts : List Fact) (handed : List (Name × ℕ)) (l : Line) (from c : ℕ) : Type 0 where
  pub behind : from ≤ c
  pub waits : is_waiting me facts handed l c ≡ true
  pub first : (d : ℕ) → from ≤ d → d < c → is_waiting me facts handed l d ≡ false

pub record IsLastWaiting (me : ℕ) (facts : List Fact) (handed : List (Name × ℕ)) (l : Line) (from : ℕ) : Type 0 where
  pub none : (d : ℕ) → from ≤ d → is_waiting me facts handed l d ≡ false

-- the index entry of a pool at a count

abbrev pub pool_entry : ℕ → Pool → ℕ → List ℕ
pool_entry tag p c = tagged tag p.master ∷ p.slave ∷ p.octets ∷ 0 ∷ c ∷ []

abbrev pub line_entry : Line → ℕ → List ℕ
line_entry (Stock p) c = pool_entry 0 p c
line_entry (Keys p) c = pool_entry 1 p c
line_entry (Parts p) c = pool_entry 2 p c

-- the fact at a place is what a list has at a count
abbrev pub stands : ℕ → Line → ℕ → ℕ → Fact → Bool
stands me (Stock p) c i (Key name m s route bytes) = is_in p m s bytes && (i == c)
stands me (Keys p) c i (Key name m s route bytes) = is_in p m s bytes && name_eq name (own me c)
stands me (Parts p) c i (Part name key m s route bytes) = is_in p m s bytes && name_eq key (own me c)
stands me _ c i _ = false

-- the fact's master has got it
abbrev pub is_taken : List (Name × ℕ) → Fact → Bool
is_taken handed (Key name m s route bytes) = was_handed handed name m
is_taken handed (Part name key m s route bytes) = was_handed handed key m
is_taken handed _ = false

-- what a list has at a count is confirmed, if the list needs that
abbrev pub is_noted : ℕ → List Fact → Line → ℕ → Bool
is_noted me facts (Stock p) c = true
is_noted me facts (Keys p) c = list_any (is_stored_about (own me c)) facts
is_noted me facts (Parts p) c = true

-- Each waiting fact among the first `count` ones has an entry. The index may have other entries, too.
pub record AreWaiting (me : ℕ) (facts : List Fact) (handed : List (Name × ℕ)) (entries : List (List ℕ)) (count : ℕ) : Type 0 where
  pub within : count ≤ length facts
  pub complete : (l : Line) (c i : ℕ) (f : Fact) → i < count → slice_get facts i ≡ Some f → stands me l c i f ≡ true → is_taken handed f ≡ false →
      is_noted me (take count facts) l c ≡ true → has_entry entries (line_entry l c) ≡ true

-- this node gave the name, and it is a key's

abbrev pub is_own : ℕ → Name → Bool
is_own me n = (n.node == me) && kind_eq n.kind KeyKind

abbrev pub pool_of : ℕ → ℕ → List ℕ → Pool
pool_of m s bytes = record { master = m; slave = s; octets = length bytes }

abbrev pub place_entry : ℕ → Fact → Option (List ℕ)
place_entry i (Key name m s route bytes) = Some (line_entry (Stock (pool_of m s bytes)) i)
place_entry i _ = None

abbrev pub count_entry : ℕ → Fact → Option (List ℕ)
count_entry me (Key name m s route bytes) = if is_own me name then Some (line_entry (Keys (pool_of m s bytes)) name.count) else None
count_entry me (Part name key m s route bytes) = if is_own me key then Some (line_entry (Parts (pool_of m s bytes)) key.count) else None
count_entry me _ = None

-- the entry, by count, of a fact that its master hasn't got
abbrev pub free_entry : ℕ → List (Name × ℕ) → Option Fact → Option (List ℕ)
free_entry me handed None = None
free_entry me handed (Some f) = if is_taken handed f then None else count_entry me f

-- The entry, by count, that is added when this fact is learned. A key and the note that confirms it come in either order: the later one
-- brings the entry.
abbrev pub brought_entry : ℕ → List Fact → List (Name × ℕ) → Fact → Option (List ℕ)
brought_entry me facts handed (Key name m s route bytes) = if list_any (is_stored_about name) facts then count_entry me (Key name m s route bytes) else None
brought_entry me facts handed (Stored note about route) = free_entry me handed (fact_at facts about)
brought_entry me facts handed f = count_entry me f

-- the new index has one more entry
pub record Grows (old new : List (List ℕ)) (entry : List ℕ) : Type 0 where
  pub has : (e : List ℕ) → has_entry new e ≡ (bytes_eq entry e || has_entry old e)

abbrev pub GrowsBy : List (List ℕ) → List (List ℕ) → Option (List ℕ) → Type 0
GrowsBy old new None = new ≡ old
GrowsBy old new (Some e) = Grows old new e

-- the new index has one entry less
pub record Shrinks (old new : List (List ℕ)) (entry : List ℕ) : Type 0 where
  pub has : (e : List ℕ) → has_entry new e ≡ (if bytes_eq entry e then false else has_entry old e)

abbrev pub ShrinksBy : List (List ℕ) → List (List ℕ) → Option (List ℕ) → Type 0
ShrinksBy old new None = new ≡ old
ShrinksBy old new (Some e) = Shrinks old new e
