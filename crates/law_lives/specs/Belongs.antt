-- When the views that the journals of a folder give back belong to one network. Each condition is a pass over one list,
-- with look-ups of names, so a program can decide it.
use Rattle.std.specs.Prelude.{◌≡◌, ℕ, ◌<◌, ◌≤◌, ◌==◌, ◌&&◌, not, Bool, true, false, List, [], ◌∷◌, length, map, filter, find, count_by, slice_get, Option, Some, None}
use Rattle.std.specs.List.{flat_map}
use Rattle.qkd_base.specs.Name.{Name, name_eq, has}
use Rattle.net_model.specs.declared.fact.Fact.{Fact}
use Rattle.net_model.specs.declared.record.Record.{Record}
use Rattle.net_model.specs.Facts.{IsWellFormedFact}
use Rattle.net_model.specs.Ranges.{IsRangedFact}
use Rattle.net_model.specs.Table.{PartOf, part_of, is_part_of, name_of, route_of, origin, is_secret, bytes_of, without_bytes, fact_at, has_fact, is_stored_about, was_handed}
use Rattle.net_model.specs.OctetSequence.{OctetSequence, first_blocks}
use Rattle.net_model.specs.Site.{Site}
use Rattle.net_model.specs.World.{Network, World, no_volatile}
use Rattle.net_model.specs.Streams.{is_chunk_of, is_chunk_at}
use Rattle.net_model.specs.View.{View, Port}
use Rattle.net_model.specs.Needed.{is_needed}
use Rattle.net_model.specs.Fold.{recovered_view}
use Rattle.net_model.specs.Knowledge.{IsEntitled, IsOn, PredecessorKnows, IsAdjacent, IsTargetOf}
use Rattle.net_model.specs.Handings.{MayHave}
use Rattle.law_invariant.specs.HandedName.{handed_name}

-- ---- what all nodes know together

abbrev pub view_or : Option View → View
view_or None = record { me = 0; facts = []; acked = []; handed = []; closed = []; ports = []; volatile = no_volatile }
view_or (Some view) = view

-- the view of a node; views are in order of node, and behind the last one nothing is known
abbrev pub view_in : List View → ℕ → View
view_in views v = view_or (slice_get views v)

abbrev pub names_of : List Fact → List Name
names_of facts = map name_of facts

-- the names that a node knows
abbrev pub known_in : List View → ℕ → List Name
known_in views v = names_of (view_in views v).facts

-- the facts of all nodes, one node behind the other
abbrev pub facts_in : List View → List Fact
facts_in views = flat_map (λ (view : View). view.facts) views

-- of facts with one name, the first alone
abbrev pub firsts : List Fact → List Fact
firsts [] = []
firsts (f ∷ fs) = f ∷ filter (λ g. not (name_eq (name_of g) (name_of f))) (firsts fs)

-- the facts of the network, each name once
abbrev pub table_in : List View → List Fact
table_in views = firsts (facts_in views)

-- ---- bytes

-- the fact's bytes are handed out under this name, and the node still needs them
abbrev pub is_needed_as : View → Name → Fact → Bool
is_needed_as view n f = is_secret f && name_eq (handed_name f) n && is_needed view f

abbrev pub or_later : Option Fact → Option Fact → Option Fact
or_later None later = later
or_later (Some f) later = Some f

-- the first fact with the bytes of this name at a node that still needs them
abbrev pub needed_in : List View → Name → Option Fact
needed_in [] n = None
needed_in (view ∷ views) n = or_later (find (is_needed_as view n) view.facts) (needed_in views n)

-- ---- what look-ups find

-- the two are one fact, but for bytes
abbrev pub IsLike : Fact → Option Fact → Type 0
IsLike f None = ⊥
IsLike f (Some g) = without_bytes f ≡ without_bytes g

abbrev pub HasBytesOf : Fact → Option Fact → Type 0
HasBytesOf f None = ⊥
HasBytesOf f (Some g) = bytes_of f ≡ bytes_of g

abbrev pub IsNamed : Name → Option Fact → Type 0
IsNamed n None = ⊥
IsNamed n (Some g) = name_of g ≡ n

abbrev pub is_for : Name → ℕ → Option PartOf → Bool
is_for key slave None = false
is_for key slave (Some p) = name_eq p.key key && (p.slave == slave)

-- the part of this group key that is for this slave
abbrev pub is_part_for : Name → ℕ → Fact → Bool
is_part_for key slave f = is_for key slave (part_of f)

-- two parts of one master, of one origin and of one size
pub record AreAkin (f g : Fact) (p q : PartOf) : Type 0 where
  pub master : p.master ≡ q.master
  pub origin : origin f ≡ origin g
  pub size : length p.bytes ≡ length q.bytes

abbrev pub IsAkin : Fact → PartOf → Option Fact → Type 0
IsAkin f p None = ⊥
IsAkin f p (Some g) = (q : PartOf) × (part_of g ≡ Some q) × AreAkin f g p q

-- A part of a group key is like the key's first part, and no other part is for its slave. The key's name is its origin's,
-- and no fact has it.
pub record IsPartIn (facts : List Fact) (n : Name) (f : Fact) (p : PartOf) : Type 0 where
  pub like : IsAkin f p (find (is_part_of p.key) facts)
  pub alone : IsNamed n (find (is_part_for p.key p.slave) facts)
  pub own : p.key.node ≡ origin f
  pub free : has_fact facts p.key ≡ false

-- no other chunk of the stream has the index, and it is below the number of the chunks that their maker knows
pub record IsChunkIn (views : List View) (n stream : Name) (index : ℕ) : Type 0 where
  pub alone : IsNamed n (find (is_chunk_at stream index) (table_in views))
  pub below : index < count_by (is_chunk_of stream) (view_in views n.node).facts

-- A Stored note is its maker's, which is the target of the fact and knows it. There is no other note about the fact.
pub record IsNoteIn (views : List View) (m n : Name) : Type 0 where
  pub target : IsTargetOf m.node (fact_at (table_in views) n)
  pub knows : has (known_in views m.node) n ≡ true
  pub alone : IsNamed m (find (is_stored_about n) (table_in views))

-- ---- the conditions

-- Each node's view is the one that the batches of its journal give back.
pub record AreRead (s : Site) (batches : ℕ → List (List Record)) (views : List View) : Type 0 where
  pub all : length views ≡ s.nodes
  pub each : (v : ℕ) (view : View) → slice_get views v ≡ Some view → view ≡ recovered_view s v (batches v)

-- What is not asked: that a link has at most 1,024 blocks, and that a lease is within what was received and is at least 8
-- from the lane's first block on. Of each view that was read both hold.
pub record Belongs (s : Site) (devices : ℕ → OctetSequence) (views : List View) : Type 0 where
  -- The blocks of both ends are the front of what the link's device gave.
  pub blocks : (v k : ℕ) (p : Port) → slice_get (view_in views v).ports k ≡ Some p → p.blocks ≡ first_blocks (devices p.lane.link) (length p.blocks)
  -- Each fact is well formed, and its numbers are in range.
  pub formed : (v : ℕ) (n : Name) (f : Fact) → fact_at (view_in views v).facts n ≡ Some f → IsWellFormedFact f × IsRangedFact f
  -- Facts of one name are one fact, but for their bytes.
  pub agree : (v : ℕ) (n : Name) (f : Fact) → fact_at (view_in views v).facts n ≡ Some f → IsLike f (fact_at (table_in views) n)
  -- All nodes that need the bytes of a name have the same; of parts, those of the group key's name.
  pub needed : (v : ℕ) (n : Name) (f : Fact) → fact_at (view_in views v).facts n ≡ Some f → is_secret f ≡ true → is_needed (view_in views v) f ≡ true →
      HasBytesOf f (needed_in views (handed_name f))
  -- A fact's name is that of its first node, which knows the fact.
  pub makers : (n : Name) (f : Fact) → fact_at (table_in views) n ≡ Some f → (n.node ≡ origin f) × (has (known_in views n.node) n ≡ true)
  -- A key, part or stream is of a pair that may share keys, from the home of the one to that of the other, and a chunk goes
  -- as its stream does.
  pub entitled : (n : Name) (f : Fact) → fact_at (table_in views) n ≡ Some f → IsEntitled s (table_in views) f
  -- The chunks of a stream count up.
  pub chunks : (n : Name) (f : Fact) (stream : Name) (index : ℕ) → fact_at (table_in views) n ≡ Some f → is_chunk_at stream index f ≡ true → IsChunkIn views n stream index
  -- The parts of a group key agree.
  pub parts : (n : Name) (f : Fact) (p : PartOf) → fact_at (table_in views) n ≡ Some f → part_of f ≡ Some p → IsPartIn (table_in views) n f p
  -- Who knows a fact stands on its route, and made the fact or comes after a node that knows it.
  pub spread : (v : ℕ) (n : Name) (f : Fact) → fact_at (view_in views v).facts n ≡ Some f → IsOn (route_of f) v × PredecessorKnows (known_in views) v n (route_of f)
  -- The next node of its route knows what it acknowledged.
  pub acked : (v : ℕ) (n : Name) → has (view_in views v).acked n ≡ true → (u : ℕ) × IsAdjacent (table_in views) (known_in views) u v u n
  -- A Stored note is that of the one target of what it is about.
  pub stored : (m n : Name) (f : Fact) → fact_at (table_in views) m ≡ Some f → is_stored_about n f ≡ true → IsNoteIn views m n
  -- What was handed out at a node was handed to an application at home there, which may have it.
  pub handings : (v : ℕ) (n : Name) (sae : ℕ) → was_handed (view_in views v).handed n sae ≡ true → (s.home sae ≡ v) × MayHave s (table_in views) (known_in views) n sae

-- nothing is known at numbers that no node has
abbrev pub NothingBehind : Network → World → Type 0
NothingBehind net w = (v : ℕ) → net.site.nodes ≤ v → w.durable.known v ≡ []
