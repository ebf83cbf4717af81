-- The index of facts: its groups and its entries.
use Rattle.std.specs.Prelude.{◌≡◌, ℕ, ◌+◌, ◌*◌, ◌<◌, ◌≤◌, ◌&&◌, not, Bool, true, false, List, [], ◌∷◌, length, slice_get, Option, Some, None, if◌then◌else◌}
use Rattle.qkd_base.specs.Name.{Name, name_eq, has, kind_number}
use Rattle.qkd_base.specs.Route.{next_after}
use Rattle.net_model.specs.declared.fact.Fact.{Fact}
use Rattle.net_model.specs.declared.fact.Fact.TheVariants.{Chunk, Stored, Joined, Part}
use Rattle.net_model.specs.Table.{name_of, route_of, is_stored_about, is_joined_about, is_part_of}
use Rattle.net_model.specs.Streams.{is_chunk_at, is_chunk_of}
use Rattle.net_model.specs.Relay.{is_some_of}
use Rattle.ordered_set.specs.Entries.{has_entry}
use Rattle.relay_core.specs.declared.group.Group.{Group}
use Rattle.relay_core.specs.declared.group.Group.TheVariants.{Named, StoredAbout, JoinedAbout, PartsOf, ChunksAt, OwedTo, ChunksOf}

-- The fact is owed to the neighbour: it comes next on the route and hasn't acknowledged the fact.
abbrev pub is_owed_to : ℕ → List Name → ℕ → Fact → Bool
is_owed_to me acked to f = is_some_of (next_after (route_of f) me) to && not (has acked (name_of f))

-- The fact belongs to the group, at a node that received acknowledgements of the names `acked`.
abbrev pub belongs : ℕ → List Name → Group → Fact → Bool
belongs me acked (Named n) f = name_eq (name_of f) n
belongs me acked (StoredAbout n) f = is_stored_about n f
belongs me acked (JoinedAbout n) f = is_joined_about n f
belongs me acked (PartsOf n) f = is_part_of n f
belongs me acked (ChunksAt s i) f = is_chunk_at s i f
belongs me acked (OwedTo to) f = is_owed_to me acked to f
belongs me acked (ChunksOf s) f = is_chunk_of s f

abbrev pub belongs_at : ℕ → List Name → Group → Option Fact → Bool
belongs_at me acked g None = false
belongs_at me acked g (Some f) = belongs me acked g f

-- An entry is a short list of numbers, since comparisons take time. The number that differs most often comes first.
-- Numbers with a small bound are packed together with one that has no bound.

-- A name's kind, which is less than 4, packed with its node.
abbrev pub origin_number : Name → ℕ
origin_number n = kind_number n.kind + 4 * n.node

-- A tag, which is less than 8, packed with a number.
abbrev pub tagged : ℕ → ℕ → ℕ
tagged tag number = tag + 8 * number

abbrev pub name_entry : ℕ → Name → ℕ → ℕ → List ℕ
name_entry tag n index place = n.count ∷ tagged tag (origin_number n) ∷ index ∷ 0 ∷ place ∷ []

abbrev pub entry_of : Group → ℕ → List ℕ
entry_of (Named n) place = name_entry 0 n 0 place
entry_of (StoredAbout n) place = name_entry 1 n 0 place
entry_of (JoinedAbout n) place = name_entry 2 n 0 place
entry_of (PartsOf n) place = name_entry 3 n 0 place
entry_of (ChunksAt s i) place = name_entry 4 s i place
entry_of (OwedTo to) place = 0 ∷ tagged 5 to ∷ 0 ∷ 0 ∷ place ∷ []
entry_of (ChunksOf s) place = name_entry 6 s 0 place

-- The entries are an index of the first `count` facts: each of these has an entry in every group to which it belongs.
-- Each entry in the index is of a fact that belongs to the entry's group; a later fact may have entries too.
pub record IsIndex (me : ℕ) (acked : List Name) (facts : List Fact) (entries : List (List ℕ)) (count : ℕ) : Type 0 where
  pub within : count ≤ length facts
  pub sound : (g : Group) (p : ℕ) → has_entry entries (entry_of g p) ≡ true → belongs_at me acked g (slice_get facts p) ≡ true
  pub complete : (g : Group) (p : ℕ) → p < count → belongs_at me acked g (slice_get facts p) ≡ true → has_entry entries (entry_of g p) ≡ true

-- The groups of one fact: that of its name, that of the name or stream it refers to, that of a chunk's stream, and
-- that of the neighbour to whom it is owed.

abbrev pub second_of : Fact → Option Group
second_of (Stored note about route) = Some (StoredAbout about)
second_of (Joined note about route) = Some (JoinedAbout about)
second_of (Part name key master slave route bytes) = Some (PartsOf key)
second_of (Chunk name stream index route bytes) = Some (ChunksAt stream index)
second_of _ = None

abbrev pub third_of : Fact → Option Group
third_of (Chunk name stream index route bytes) = Some (ChunksOf stream)
third_of _ = None

abbrev pub owed_group : Option ℕ → Option Group
owed_group None = None
owed_group (Some to) = Some (OwedTo to)

-- The neighbour to whom a fact is owed.
abbrev pub creditor : ℕ → List Name → Fact → Option ℕ
creditor me acked f = if has acked (name_of f) then None else next_after (route_of f) me

abbrev pub creditor_of : ℕ → List Name → Option Fact → Option ℕ
creditor_of me acked None = None
creditor_of me acked (Some f) = creditor me acked f
