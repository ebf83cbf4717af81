-- Who knows which facts. A fact spreads only along its route, hop by hop.
use Rattle.std.specs.Prelude.{◌≡◌, ℕ, ◌<◌, ◌==◌, true, false, List, [], ◌∷◌, slice_get, count_by, Option, Some, None, ◌⊎◌}
use Rattle.std.specs.List.{list_any}
use Rattle.qkd_base.specs.Name.{Name, IsName, has}
use Rattle.qkd_base.specs.Route.{first_of, last_of, next_after}
use Rattle.net_model.specs.declared.fact.Fact.{Fact}
use Rattle.net_model.specs.declared.fact.Fact.TheVariants.{Key, Chunk, Stored, Open, Joined, Part}
use Rattle.net_model.specs.Facts.{IsWellFormedFact}
use Rattle.net_model.specs.Ranges.{IsRangedFact}
use Rattle.net_model.specs.Table.{PartOf, part_of, name_of, route_of, origin, target, is_secret, fact_at, has_fact, facts_of, is_stored_about}
use Rattle.net_model.specs.Item.{Item, DataItem, AckItem}
use Rattle.net_model.specs.Site.{Site}
use Rattle.net_model.specs.Streams.{is_chunk_of, is_chunk_at}
use Rattle.net_model.specs.World.{Allocation, Transmission}

-- ---- the table of facts

-- the stream of a chunk is an Open fact between the same two nodes
abbrev pub IsOpenBetween : List ℕ → Option Fact → Type 0
IsOpenBetween nodes (Some (Open stream source peer size route)) = (first_of nodes ≡ first_of route) × (last_of nodes ≡ last_of route)
IsOpenBetween nodes _ = ⊥

-- a pair that may share keys, and a route from the home of the first to the home of the second
pub record IsPair (s : Site) (first last : ℕ) (route : List ℕ) : Type 0 where
  pub allowed : s.allowed first last ≡ true
  pub from : first_of route ≡ s.home first
  pub to : last_of route ≡ s.home last

abbrev pub IsEntitled : Site → List Fact → Fact → Type 0
IsEntitled s facts (Key name master slave route bytes) = IsPair s master slave route
IsEntitled s facts (Open stream source peer size route) = IsPair s source peer route
IsEntitled s facts (Chunk name stream index route bytes) = IsOpenBetween route (fact_at facts stream)
IsEntitled s facts (Part name key master slave route bytes) = IsPair s master slave route
IsEntitled s facts (Stored note about route) = Unit {0}
IsEntitled s facts (Joined note about route) = Unit {0}

-- A fact is well formed, its name is its maker's, and its maker knows it.
pub record IsFactOf (s : Site) (facts : List Fact) (known : ℕ → List Name) (n : Name) (f : Fact) : Type 0 where
  pub formed : IsWellFormedFact f
  pub ranged : IsRangedFact f
  pub maker : n.node ≡ origin f
  pub made : has (known n.node) n ≡ true
  pub entitled : IsEntitled s facts f

abbrev pub IsTable : Site → List Fact → (ℕ → List Name) → Type 0
IsTable s facts known = (n : Name) (f : Fact) → fact_at facts n ≡ Some f → IsFactOf s facts known n f

-- how many chunks of a stream are among the facts of these names
abbrev pub chunks_known : List Fact → List Name → Name → ℕ
chunks_known facts ns stream = count_by (is_chunk_of stream) (facts_of facts ns)

-- The chunks of a stream have different indexes. Each is less than the number of chunks that the home of the stream's
-- source knows.
pub record IsStreams (facts : List Fact) (known : ℕ → List Name) : Type 0 where
  pub differ : (n m : Name) (f g : Fact) (stream : Name) (index : ℕ) → fact_at facts n ≡ Some f → fact_at facts m ≡ Some g →
      is_chunk_at stream index f ≡ true → is_chunk_at stream index g ≡ true → n ≡ m
  pub below : (n : Name) (f : Fact) (stream : Name) (index : ℕ) → fact_at facts n ≡ Some f → is_chunk_at stream index f ≡ true →
      index < chunks_known facts (known n.node) stream

-- two parts of one group key: they agree in their bytes, master and origin, and are for different slaves
pub record AreParts (f g : Fact) (p q : PartOf) : Type 0 where
  pub bytes : p.bytes ≡ q.bytes
  pub master : p.master ≡ q.master
  pub origin : origin f ≡ origin g
  pub slaves : p.slave ≡ q.slave → name_of f ≡ name_of g

pub record IsGroups (facts : List Fact) : Type 0 where
  pub alike : (n m : Name) (f g : Fact) (p q : PartOf) → fact_at facts n ≡ Some f → fact_at facts m ≡ Some g →
      part_of f ≡ Some p → part_of g ≡ Some q → p.key ≡ q.key → AreParts f g p q
  -- the name of a group key is one of its origin's names, and no fact has it
  pub own : (n : Name) (f : Fact) (p : PartOf) → fact_at facts n ≡ Some f → part_of f ≡ Some p → (p.key.node ≡ origin f) × IsName p.key
  pub free : (n : Name) (f : Fact) (p : PartOf) → fact_at facts n ≡ Some f → part_of f ≡ Some p → has_fact facts p.key ≡ false

-- ---- what nodes know

abbrev pub AllDiffer : List Name → Type 0
AllDiffer [] = Unit {0}
AllDiffer (n ∷ ns) = (has ns n ≡ false) × AllDiffer ns

abbrev pub IsOn : List ℕ → ℕ → Type 0
IsOn route v = list_any (λ u. u == v) route ≡ true

-- a node may know a fact if it made the fact, or if the node before it on the route knows the fact
abbrev pub PredecessorKnows : (ℕ → List Name) → ℕ → Name → List ℕ → Type 0
PredecessorKnows known v n route = (first_of route ≡ v) ⊎ ((u : ℕ) × (next_after route u ≡ Some v) × (has (known u) n ≡ true))

pub record KnownOnRoute (facts : List Fact) (known : ℕ → List Name) (v : ℕ) (n : Name) : Type 0 where
  pub fact : Fact
  pub there : fact_at facts n ≡ Some fact
  pub on : IsOn (route_of fact) v
  pub source : PredecessorKnows known v n (route_of fact)

pub record IsKnowledge (facts : List Fact) (known : ℕ → List Name) : Type 0 where
  pub differ : (v : ℕ) → AllDiffer (known v)
  pub each : (v : ℕ) (n : Name) → has (known v) n ≡ true → KnownOnRoute facts known v n

-- ---- what lanes carry

-- a node knows a fact on whose route v comes directly after u
pub record IsAdjacent (facts : List Fact) (known : ℕ → List Name) (knower u v : ℕ) (n : Name) : Type 0 where
  pub fact : Fact
  pub there : fact_at facts n ≡ Some fact
  pub next : next_after (route_of fact) u ≡ Some v
  pub knows : has (known knower) n ≡ true

-- a lane carries a fact from a node that knows it to the next node of its route, and an acknowledgement back
abbrev pub MayCarry : List Fact → (ℕ → List Name) → ℕ → ℕ → Item → Type 0
MayCarry facts known from to (DataItem n) = IsAdjacent facts known from from to n
MayCarry facts known from to (AckItem n) = IsAdjacent facts known from to from n

pub record IsCarried (facts : List Fact) (known : ℕ → List Name) (from to : ℕ) (frames : List Allocation) (unclaimed : List Transmission) : Type 0 where
  pub framed : (j : ℕ) (a : Allocation) → slice_get frames j ≡ Some a → MayCarry facts known from to a.item
  pub wanted : (j : ℕ) (t : Transmission) → slice_get unclaimed j ≡ Some t → MayCarry facts known from to t.item

-- ---- acknowledgements and Stored notes

-- if a node has marked a fact as acknowledged, the next node of its route knows the fact
abbrev pub IsMarked : List Fact → (ℕ → List Name) → (ℕ → List Name) → Type 0
IsMarked facts known acked = (v : ℕ) (n : Name) → has (acked v) n ≡ true → (u : ℕ) × IsAdjacent facts known u v u n

-- the node is the target of a key, chunk or part
abbrev pub IsTargetOf : ℕ → Option Fact → Type 0
IsTargetOf v None = ⊥
IsTargetOf v (Some f) = (is_secret f ≡ true) × (target f ≡ v)

-- A Stored note is made by the target of a fact, which knows the fact. There is at most one such note for each fact.
pub record IsStoredOnce (facts : List Fact) (known : ℕ → List Name) : Type 0 where
  pub target : (m n : Name) (f : Fact) → fact_at facts m ≡ Some f → is_stored_about n f ≡ true →
      IsTargetOf m.node (fact_at facts n) × (has (known m.node) n ≡ true)
  pub once : (m m' n : Name) (f f' : Fact) → fact_at facts m ≡ Some f → fact_at facts m' ≡ Some f' →
      is_stored_about n f ≡ true → is_stored_about n f' ≡ true → m ≡ m'
